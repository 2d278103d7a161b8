-- Ids are read again, and who is answered.
use Rattle.std.proofs.Common.{◌≡◌, ℕ, List, ◌∷◌, ◌++◌, true, Ok, refl, ap, ◌∙◌, append_assoc}
use Rattle.dura_value.specs.Ids.{Id, orchestration, entity, client}
use Rattle.dura_value.specs.Names.{is_name}
use Rattle.dura_value.specs.Messages.{Reply, to_nobody, to_task, to_request}
use Rattle.dura_codec.specs.Grammar.{id_at, reply_at}
use Rattle.dura_codec.specs.Spelling.{spell_word, spell_id, spell_reply}
use Rattle.part_items.specs.Fits.{FitsPair, FitsId, FitsReply}
use Rattle.part_items.proofs.Numbers.{number_again_4, request_again}
use Rattle.part_items.proofs.Words.{name_again, key_again}

pair_again : (tag : ℕ) (name key rest : List ℕ) → (tag ∷ spell_word name ++ spell_word key) ++ rest ≡ tag ∷ (spell_word name ++ (spell_word key ++ rest))
pair_again tag name key rest = ap (λ (bytes : List ℕ). tag ∷ bytes) (append_assoc (spell_word name) (spell_word key) rest)

flow_again : (flow key rest : List ℕ) → FitsPair flow key → id_at (1 ∷ (spell_word flow ++ (spell_word key ++ rest))) ≡ Ok (orchestration flow key, rest)
unfolding id_at
flow_again flow key rest fits = rw (name_again flow (spell_word key ++ rest) fits.name_is, key_again key rest fits.key_is) refl

entity_again : (class key rest : List ℕ) → FitsPair class key → id_at (2 ∷ (spell_word class ++ (spell_word key ++ rest))) ≡ Ok (entity class key, rest)
unfolding id_at
entity_again class key rest fits = rw (name_again class (spell_word key ++ rest) fits.name_is, key_again key rest fits.key_is) refl

client_again : (name rest : List ℕ) → is_name name ≡ true → id_at (3 ∷ (spell_word name ++ rest)) ≡ Ok (client name, rest)
unfolding id_at
client_again name rest fits = rw (name_again name rest fits) refl

pub id_again : (id : Id) (rest : List ℕ) → FitsId id → id_at (spell_id id ++ rest) ≡ Ok (id, rest)
id_again (orchestration flow key) rest fits = ap id_at (pair_again 1 flow key rest) ∙ flow_again flow key rest fits
id_again (entity class key) rest fits = ap id_at (pair_again 2 class key rest) ∙ entity_again class key rest fits
id_again (client name) rest fits = client_again name rest fits

pub reply_again : (reply : Reply) (rest : List ℕ) → FitsReply reply → reply_at (spell_reply reply ++ rest) ≡ Ok (reply, rest)
unfolding reply_at
reply_again to_nobody rest fits = refl
reply_again (to_task number) rest fits = rw (number_again_4 number rest fits) refl
reply_again (to_request number) rest fits = rw (request_again number rest fits.some fits.fits) refl
