-- A header that was read of a partition's log is that partition's.
use Rattle.std.proofs.Common.{◌≡◌, ◌∙◌, ℕ, ◌^◌, List, [], ◌∷◌, Bool, true, false, cond, eqb, eqb-true, nat_lt, if◌then◌else◌, Result, Ok, Err, refl, sym, ap, subst}
use Rattle.std.specs.Int.{w32, w64}
use Rattle.commit_log.specs.declared.header.Header.{Header}
use Rattle.commit_log.specs.Segment.{◌>>=◌, open_gate, signature, constant_at, number_at, header_at}
use Rattle.commit_log.specs.Frames.{fresh, headed, header_for, opening_from, opening_of}
use Rattle.dura_value.proofs.Basics.{both_ok, passed_ok}

same_ok : {A : Type 0} (r : Result A ℕ) (a b : A) → r ≡ Ok a → r ≡ Ok b → a ≡ b
same_ok r a b one other = let both : Ok a ≡ Ok b = sym one ∙ other in cc both

-- the last number of a header, behind the others
last_number : (partition partitions digest : ℕ) (bytes : List ℕ) (found : Header × List ℕ)
    → (number_at w64 25 bytes >>= λ base. if nat_lt base.0 (2 ^ 63) then Ok (record { partition = partition; partitions = partitions; digest = digest; base = base.0 }, base.1) else Err 25) ≡ Ok found → partition ≡ found.0.partition
last_number partition partitions digest bytes found h =
    let base = both_ok (number_at w64 25 bytes) _ found h in
    let read : Header × List ℕ = (record { partition = partition; partitions = partitions; digest = digest; base = base.0.0 }, base.0.1) in
    let end = passed_ok (nat_lt base.0.0 (2 ^ 63)) (Ok read) 25 found base.2 in
    ap (λ (f : Header × List ℕ). f.0.partition) (same_ok (Ok read) read found refl end.1)

-- the number that stands first behind the signature
header_number : (bytes rest : List ℕ) (number : ℕ × List ℕ) (found : Header × List ℕ) → constant_at signature 1 bytes ≡ Ok rest → number_at w32 9 rest ≡ Ok number → header_at bytes ≡ Ok found → number.0 ≡ found.0.partition
unfolding header_at
header_number bytes rest number found constant first h =
    let start = both_ok (constant_at signature 1 bytes) _ found h in
    let partition = both_ok (number_at w32 9 start.0) _ found start.2 in
    let partitions = both_ok (number_at w32 13 partition.0.1) _ found partition.2 in
    let digest = both_ok (number_at w64 17 partitions.0.1) _ found partitions.2 in
    let there : rest ≡ start.0 = same_ok (constant_at signature 1 bytes) rest start.0 constant start.1 in
    let number_is : number ≡ partition.0 = same_ok (number_at w32 9 start.0) number partition.0 (subst (λ (r : List ℕ). number_at w32 9 r ≡ Ok number) there first) partition.1 in
    ap (λ (n : ℕ × List ℕ). n.0) number_is ∙ last_number partition.0.0 partitions.0.0 digest.0.0 digest.0.1 found digest.2

own_header : (partition : ℕ) (bytes : List ℕ) (found : Header × List ℕ) → header_for partition bytes ≡ Ok found → found.0.partition ≡ partition
own_header partition bytes found h =
    let start = both_ok (constant_at signature 1 bytes) _ found h in
    let number = both_ok (number_at w32 9 start.0) _ found start.2 in
    let own = passed_ok (eqb number.0.0 partition) (header_at bytes) 9 found number.2 in
    sym (header_number bytes start.0 number.0 found start.1 number.1 own.1) ∙ eqb-true number.0.0 partition own.0

headed_by : (found : Result (Header × List ℕ) ℕ) (h : Header) → opening_from found ≡ headed h → (rest : List ℕ) × (found ≡ Ok (h, rest))
headed_by (Ok found) h is = let same : found.0 ≡ h = cc is in (found.1, ap (λ (x : Header). Ok (x, found.1)) same)
headed_by (Err offset) h is = absurd (cc is)

pub own_partition : (partition : ℕ) (content : List ℕ) (h : Header) → opening_of partition content ≡ headed h → h.partition ≡ partition
own_partition partition [] h is = absurd (cc is)
own_partition partition (gate ∷ []) h is = absurd (cc is)
own_partition partition (gate ∷ byte ∷ bytes) h is = by (eqb gate open_gate) is
  where
    by : (b : Bool) → cond b (opening_from (header_for partition (byte ∷ bytes))) fresh ≡ headed h → h.partition ≡ partition
    by true there = let found = headed_by (header_for partition (byte ∷ bytes)) h there in own_header partition (byte ∷ bytes) (h, found.0) found.1
    by false there = absurd (cc there)
