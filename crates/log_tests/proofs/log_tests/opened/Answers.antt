use Rattle.std.proofs.Common.{◌≡◌, ◌∷◌, Result, Ok, OnOk, IfOk, ap, subst, ◌∙◌}
use Rattle.site_model.specs.History.{on, synced, content_of}
use Rattle.site_memory.specs.Memory.{memory_history}
use Rattle.commit_log.specs.declared.reader.OpenedLog.{OpenedLog}
use Rattle.commit_log.specs.declared.reader.Next.TheVariants.{Frame, End}
use Rattle.commit_log.specs.declared.reader.OpenError.{OpenError}
use Rattle.commit_log.specs.Reading.{Opens, Goes, StaysAhead, RestsAtEnd, StaysInFile}
use Rattle.log_tests.proofs.Opened.{begun, more, at_end}
use Rattle.log_tests.proofs.log_tests.opened.Goals as goal

pub loop-init : goal.loop-init
loop-init g c =
    let file = c.args.file in
    let old = memory_history c.args.site.now in
    let now = memory_history c.open_log.new.site in
    let e = c.open_log.ensures in
    let is = c.expect-log.ensures in
    begun file old now c.frames-reader.result c.expect-log.result
    (subst (λ (r : Result OpenedLog OpenError). OnOk r (now ≡ on file synced ∷ old)) is e.synced)
    (subst (λ (r : Result OpenedLog OpenError). IfOk r (λ opened. opened.file ≡ file)) is e.place)
    (subst (Opens 0 (content_of file old)) is (e.opens tt))
    c.frames-reader.ensures.place c.frames-reader.ensures.ahead

pub returns-in-End-clause-rests : goal.returns-in-End-clause-rests
returns-in-End-clause-rests g c =
    let reader = c.loop.reader in
    let was = c.loop.invariant in
    let now = memory_history c.next.new.site in
    let e = c.next.ensures in
    let is : c.next.result ≡ Ok (End c.in-End.log) = c.expect.ensures ∙ ap Ok c.in-End.is in
    at_end c.args.file (memory_history c.args.site.now) (memory_history c.loop.site) reader c.in-End.log now was
    (subst (StaysInFile reader) is e.place).0
    (subst (RestsAtEnd now reader.header was.payloads) is (e.rests tt was.ahead was.payloads was.read was.kept))

pub loop-preserved : goal.loop-preserved
loop-preserved g c =
    let reader = c.loop.reader in
    let was = c.loop.invariant in
    let now = memory_history c.loop.site in
    let e = c.next.ensures in
    let is : c.next.result ≡ Ok (Frame c.in-Frame.payload c.in-Frame.behind) = c.expect.ensures ∙ ap Ok c.in-Frame.is in
    more c.args.file (memory_history c.args.site.now) now reader c.in-Frame.behind c.in-Frame.payload (memory_history c.next.new.site) was e.unchanged
    (subst (StaysInFile reader) is e.place)
    (subst (Goes (content_of reader.file now) reader was.payloads) is (e.found tt was.ahead was.payloads was.read))
    (subst (StaysAhead (content_of reader.file now)) is (e.ahead tt was.ahead))
