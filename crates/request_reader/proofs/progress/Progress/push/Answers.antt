-- The new request has a place and is its client's latest, and the others stay.
use Rattle.std.proofs.Common.{◌≡◌, sym, ap, ◌∙◌, [], ◌∷◌, ◌++◌, length}
use Rattle.std.specs.Prelude.{map}
use Rattle.std.specs.Cmp.Lexicographic.{slice_cmp}
use Rattle.std.specs.Ordering.{nat_cmp, is_eq}
use Rattle.std.proofs.lemmas.List.{map-append, length-map}
use Rattle.std.proofs.lemmas.Map.Text.{is_eq-slice_cmp}
use Rattle.request_reader.specs.Line.{request_of}
use Rattle.request_reader.specs.Progress.{pair_cmp}
use Rattle.request_reader.proofs.Places.{places_after, numbers_after, same_pair}
use Rattle.request_reader.proofs.progress.Progress.push.Goals as goal

pub returns : goal.returns
returns c =
    let old = c.args.self.now.requests.items in
    let rs = map request_of old in
    let r = request_of c.args.request in
    let one = c.in_ok-request.ensures.ok in
    let two = c.in_ok-request-2.ensures.ok in
    let same : c.in_ok-request.request ≡ c.args.request = one.1 in
    let items : c.push.new.self.items ≡ old ++ c.args.request ∷ [] = c.in_ok-push.ensures.items ∙ ap (λ x. old ++ x ∷ []) (two.1 ∙ same) in
    let more : map request_of c.push.new.self.items ≡ rs ++ r ∷ [] = ap (map request_of) items ∙ map-append request_of old (c.args.request ∷ []) in
    let place : length c.as_slice-place.result.now ≡ length rs = ap length c.as_slice-place.ensures.value ∙ sym (length-map old request_of) in
    let into_latest = rw one.0 at c.note_latest.ensures in
    let into_places = rw same at (rw two.0 at c.note_place.ensures) in
    record {
      pushed = more;
      stands = record {
        places = λ name n.
            let test = is_eq (pair_cmp (r.client, r.number) (name, n)) in
            rw more (places_after rs r name n _ _ test (same_pair r.client name r.number n) (rw (← place) (into_places name n)) (c.requires.stands.places name n) c.requires.unused);
        numbers = λ name.
            let test = is_eq (slice_cmp nat_cmp r.client name) in
            rw more (numbers_after rs r name _ _ test (is_eq-slice_cmp r.client name) (into_latest name) (c.requires.stands.numbers name));
      };
    }
