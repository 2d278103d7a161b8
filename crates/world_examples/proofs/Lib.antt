mod Courses
mod Joins
mod Judges
mod Known
mod NewWorlds
