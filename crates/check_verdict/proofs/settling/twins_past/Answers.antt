use Rattle.std.proofs.Common.{◌≡◌, ℕ, ◌+◌, ◌<◌, ◌≤◌, ◌∙◌, ◌||◌, ◌&&◌, ◌++◌, Bool, false, List, length, sym, ap, get_or, arith}
use Rattle.std.{specs.List.list_any, specs.Prelude.{drop, filter, nat_le, not, take}, proofs.lemmas.Bool.{le-leb, lt-leb}}
use Rattle.masked_bytes.proofs.Counting.{one_if}
use Rattle.check_verdict.{specs.Fitting.{is_of, twins_in}, specs.declared.members.Member.Member, proofs.Twins.{twins-stay, twins-leave}}
use Rattle.check_verdict.proofs.settling.twins_past.Goals.{else-member-tick-via-then-member-tick+else-stands_beside, else-member-tick-via-else-member-tick}
use Rattle.check_verdict.proofs.settling.twins_past.Goals as goal

abbrev none : Member
none = record { line = 0; merged = false; arrived = 0; end = 0; leave = 0 }

abbrev stays : ℕ → Member → Bool
stays tick m = not (nat_le m.end tick)

-- one less has a later one where another stands beside the member that leaves
left : (ms : List Member) (i tick twins : ℕ) (beside : Bool) → i < length ms → twins ≡ twins_in (filter (stays tick) (take i ms) ++ drop i ms)
    → (get_or ms i none).end ≤ tick
    → beside ≡ (list_any (λ m. is_of (get_or ms i none).line m && stays tick m) (take i ms) || list_any (is_of (get_or ms i none).line) (drop (i + 1) ms))
    → one_if beside + twins_in (filter (stays tick) (take (i + 1) ms) ++ drop (i + 1) ms) ≡ twins
left ms i tick twins beside within is ends found =
    ap (λ b. one_if b + twins_in (filter (stays tick) (take (i + 1) ms) ++ drop (i + 1) ms)) found
    ∙ twins-leave (stays tick) ms i none within (ap not (le-leb (get_or ms i none).end tick ends))
    ∙ sym is

pub overflow_sub-result : goal.overflow_sub-result
overflow_sub-result c =
    let k = left c.args.members.now c.args.index c.args.tick c.args.twins c.stands_beside.result c.requires.index c.requires.twins c.if-member-tick.true c.stands_beside.ensures in
    let one : one_if c.stands_beside.result ≡ 1 = ap one_if c.if-stands_beside.true in
    omega (arith, k, one)

pub returns-then-stands_beside : goal.returns-then-stands_beside
returns-then-stands_beside c =
    let k = left c.args.members.now c.args.index c.args.tick c.args.twins c.stands_beside.result c.requires.index c.requires.twins c.if-member-tick.true c.stands_beside.ensures in
    let one : one_if c.stands_beside.result ≡ 1 = ap one_if c.if-stands_beside.true in
    omega (arith, k, one)

pub returns-else-member-tick : goal.returns-else-member-tick
returns-else-member-tick c = elim c.else-member-tick.branch [
  | else-member-tick-via-then-member-tick+else-stands_beside w ↦
      (let k = left c.args.members.now c.args.index c.args.tick c.args.twins w.stands_beside.result c.requires.index c.requires.twins w.if-member-tick.true w.stands_beside.ensures in
      let none : one_if w.stands_beside.result ≡ 0 = ap one_if w.if-stands_beside.false in
      omega (arith, k, none))
  | else-member-tick-via-else-member-tick w ↦
      c.requires.twins
      ∙ sym (twins-stay (stays c.args.tick) c.args.members.now c.args.index none c.requires.index (ap not (lt-leb (get_or c.args.members.now c.args.index none).end c.args.tick w.if-member-tick.false)))
]
