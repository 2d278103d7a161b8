-- Which packets go where streams are cut.
use Rattle.std.specs.Prelude.{ℕ, ◌==◌, ◌||◌, Bool, false, not, if◌then◌else◌, List, [], ◌∷◌, ◌++◌, Option, Some, None}
use Rattle.std.specs.List.{list_any}
use Rattle.dura_value.specs.Items.{Identity}
use Rattle.cell_waits.specs.Waits.{Waiting, sender_of}

-- whether a partition is one of these
abbrev pub is_among : List ℕ → ℕ → Bool
is_among cut source = list_any (λ other. other == source) cut

-- whether it is a packet of one of these streams
abbrev pub is_sent_by : List ℕ → Option Identity → Bool
is_sent_by cut None = false
is_sent_by cut (Some entry) = is_among cut entry.partition

abbrev pub stays : List ℕ → Waiting → Bool
stays cut w = not (is_sent_by cut (sender_of w.item))

-- whether a packet of this entry goes: its stream is cut, or it is lost
abbrev pub goes : (lost : Identity → Bool) → List ℕ → Option Identity → Bool
goes lost cut None = false
goes lost cut (Some entry) = is_among cut entry.partition || lost entry

-- which streams are cut behind it
abbrev pub cut_behind : (lost : Identity → Bool) → List ℕ → Option Identity → List ℕ
cut_behind lost cut None = cut
cut_behind lost cut (Some entry) = if is_among cut entry.partition then cut else (if lost entry then cut ++ entry.partition ∷ [] else cut)
