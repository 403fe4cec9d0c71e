use Rattle.std.proofs.Common.{[], ◌++◌, suc, ap, refl, sym, ◌∙◌, append_assoc, arith}
use Rattle.std.proofs.{lemmas.Bool.false≢true, lemmas.List.{append-nil, length-append}}
use Rattle.pcm_io.proofs.ByteLemmas.{Takes-Takes, Takes-nothing}
use Rattle.trace_stream.{specs.Arrived.Arrived, specs.Kept.Kept, specs.Machine.state_of, specs.Requests.LacksRow, proofs.Requests.{asks-again, asks-unless}, proofs.Steps.{finds-finished, goes-first, goes-goes, goes-more, none-decides, stays-stays, still-open}}
use Rattle.trace_stream.proofs.records.Records.next.Goals as goal

pub returns-then-not-some-clause-found : goal.returns-then-not-some-clause-found
returns-then-not-some-clause-found g c =
    let before = c.pieces.invariant.goes_on in
    let goes = goes-goes _ _ _ _ _ _ _ _ _ _ _ _ c.pieces.invariant.few before.3 (c.advance.ensures.goes_on c.if-advance.false) in
    let more = goes-more _ _ _ _ _ _ _ _ c.fill.new.self.bytes (c.advance.ensures.spent c.if-advance.false) goes in
    let whole = rw append_assoc at more in
    let ended = stays-stays _ _ _ _ _ (rw (← c.advance.ensures.same) at before.2) c.in-Ok.ensures.still in
    let none = c.in-Ok.ensures.none c.if-not-some.true in
    let same = c.finish.ensures.same in (
      before.0 ++ c.fill.new.self.bytes,
      Takes-Takes _ _ _ _ _ _ _ _ before.1 c.in-Ok.ensures.takes,
      rw (ap (λ (a : Arrived). a.ended) same) ended,
      finds-finished c.finish.result _ _ _ _ _ _ _ _ _ whole none.0
          (ap (λ (a : Arrived). a.bytes) same ∙ none.0) (ap (λ (a : Arrived). a.ended) same ∙ none.1)
          c.finish.ensures.found c.finish.ensures.none,
    )

pub pieces-preserved : goal.pieces-preserved
pieces-preserved g c =
    let before = c.pieces.invariant.goes_on in
    let goes = goes-goes _ _ _ _ _ _ _ _ _ _ _ _ c.pieces.invariant.few before.3 (c.advance.ensures.goes_on c.if-advance.false) in
    let more = goes-more _ _ _ _ _ _ _ _ c.fill.new.self.bytes (c.advance.ensures.spent c.if-advance.false) goes in
    let whole = rw append_assoc at more in
    let ended = stays-stays _ _ _ _ _ (rw (← c.advance.ensures.same) at before.2) c.in-Ok.ensures.still in
    let joined = length-append before.0 c.fill.new.self.bytes in
    let some = (c.in-Ok.ensures.some c.if-not-some.false).0 in
    let pieces = before.4 in
    let none = none-decides _ _ _ _ _ _ _ _ goes (c.advance.ensures.few c.if-advance.false) (c.advance.ensures.spent c.if-advance.false) in
    let asked = asks-unless g.S.Source.left g.S.Source.taken (LacksRow (state_of c.args.self.now.place) c.args.self.now.incoming) c.args.source.now c.pieces.source c.fill.new.source before.5 before.0 c.fill.new.self.bytes c.advance.new.self.incoming.ended before.6
    (λ unended. (still-open _ _ _ before.2 (sym c.advance.ensures.same ∙ unended), none)) c.in-Ok.ensures.takes c.in-Ok.ensures.few (λ ended. (c.fill.ensures.rests ended, (c.in-Ok.ensures.still ended).0)) in
    record {
      goes_on = (before.0 ++ c.fill.new.self.bytes, Takes-Takes _ _ _ _ _ _ _ _ before.1 c.in-Ok.ensures.takes, ended, whole, omega (arith, joined, some, pieces), asked.0, asked.1);
      few = c.advance.ensures.few c.if-advance.false;
      prompt = λ decides.
          let was = c.pieces.invariant.prompt decides in
          let none = none-decides _ _ _ _ _ _ _ _ (c.advance.ensures.goes_on c.if-advance.false) (c.advance.ensures.few c.if-advance.false) (c.advance.ensures.spent c.if-advance.false) in
          absurd (false≢true (sym none ∙ rw (was.0, was.1, was.2) decides));
      «end» = λ at. c.in-Ok.ensures.end (λ ended. c.pieces.invariant.end at (sym c.advance.ensures.same ∙ ended));
      no_fault = c.in-Ok.ensures.no_fault ∙ c.pieces.invariant.no_fault;
    }

pub returns-in_default-clause-prompt : goal.returns-in_default-clause-prompt
returns-in_default-clause-prompt g c = λ decides.
    let was = c.pieces.invariant.prompt decides in
    let none = none-decides _ _ _ _ _ _ _ _ (c.advance.ensures.goes_on c.if-advance.false) (c.advance.ensures.few c.if-advance.false) (c.advance.ensures.spent c.if-advance.false) in
    absurd (false≢true (sym none ∙ rw (was.0, was.1, was.2) decides))

pub returns-then-not-some-clause-prompt : goal.returns-then-not-some-clause-prompt
returns-then-not-some-clause-prompt g c = λ decides.
    let was = c.pieces.invariant.prompt decides in
    let none = none-decides _ _ _ _ _ _ _ _ (c.advance.ensures.goes_on c.if-advance.false) (c.advance.ensures.few c.if-advance.false) (c.advance.ensures.spent c.if-advance.false) in
    absurd (false≢true (sym none ∙ rw (was.0, was.1, was.2) decides))

pub returns-in_default-clause-sparing : goal.returns-in_default-clause-sparing
returns-in_default-clause-sparing g c = λ is.
    let before = c.pieces.invariant.goes_on in
    let goes = goes-goes _ _ _ _ _ _ _ _ _ _ _ _ c.pieces.invariant.few before.3 (c.advance.ensures.goes_on c.if-advance.false) in
    let none = none-decides _ _ _ _ _ _ _ _ goes (c.advance.ensures.few c.if-advance.false) (c.advance.ensures.spent c.if-advance.false) in
    let fails = c.in_default.ensures.untaken in
    (before.0 ++ [], Takes-Takes _ _ _ _ _ _ _ _ before.1 fails.1, still-open _ _ _ before.2 (sym c.advance.ensures.same ∙ fails.0), rw (append-nil before.0) none)

-- the source was asked only where what had come decided of no record
pub pieces-init : goal.pieces-init
pieces-init g c =
    let fields = ap (λ (k : Kept). k.fields) c.begin.ensures in
    let field = ap (λ (k : Kept). k.field) c.begin.ensures in
    record {
      goes_on = ([], Takes-nothing _ _, λ ended. (refl, ended), goes-first _ _ _ _ fields field, omega arith, 0, (refl, refl));
      few = rw fields (omega arith);
      prompt = λ decides. (refl, fields, refl, refl);
      «end» = λ at. at;
      no_fault = refl;
    }

pub returns-then-advance-clause-asks : goal.returns-then-advance-clause-asks
returns-then-advance-clause-asks g c = let before = c.pieces.invariant.goes_on in (before.5, before.0, before.6)

pub returns-in_default-clause-asks : goal.returns-in_default-clause-asks
returns-in_default-clause-asks g c =
    let before = c.pieces.invariant.goes_on in
    let goes = goes-goes _ _ _ _ _ _ _ _ _ _ _ _ c.pieces.invariant.few before.3 (c.advance.ensures.goes_on c.if-advance.false) in
    let none = none-decides _ _ _ _ _ _ _ _ goes (c.advance.ensures.few c.if-advance.false) (c.advance.ensures.spent c.if-advance.false) in
    let fails = c.in_default.ensures.untaken in (
      suc before.5,
      before.0 ++ [],
      asks-again g.S.Source.left g.S.Source.taken (LacksRow (state_of c.args.self.now.place) c.args.self.now.incoming) c.args.source.now c.pieces.source c.fill.new.source before.5 before.0 [] before.6
          (still-open _ _ _ before.2 (sym c.advance.ensures.same ∙ fails.0), none) fails.1 (omega arith),
    )

pub returns-then-not-some-clause-asks : goal.returns-then-not-some-clause-asks
returns-then-not-some-clause-asks g c =
    let before = c.pieces.invariant.goes_on in
    let goes = goes-goes _ _ _ _ _ _ _ _ _ _ _ _ c.pieces.invariant.few before.3 (c.advance.ensures.goes_on c.if-advance.false) in
    let none = none-decides _ _ _ _ _ _ _ _ goes (c.advance.ensures.few c.if-advance.false) (c.advance.ensures.spent c.if-advance.false) in
    let asked = asks-unless g.S.Source.left g.S.Source.taken (LacksRow (state_of c.args.self.now.place) c.args.self.now.incoming) c.args.source.now c.pieces.source c.fill.new.source before.5 before.0 c.fill.new.self.bytes c.advance.new.self.incoming.ended before.6
    (λ unended. (still-open _ _ _ before.2 (sym c.advance.ensures.same ∙ unended), none)) c.in-Ok.ensures.takes c.in-Ok.ensures.few (λ ended. (c.fill.ensures.rests ended, (c.in-Ok.ensures.still ended).0)) in
    (asked.0, before.0 ++ c.fill.new.self.bytes, asked.1)
