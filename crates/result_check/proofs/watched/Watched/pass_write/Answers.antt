use Rattle.std.proofs.Common.{◌≡◌, ◌-◌, ◌∙◌, true, false, length, refl, sym, subst, ap, arith, rules}
use Rattle.std.specs.{List.list_any, Prelude.min}
use Rattle.check_verdict.specs.{Banks.facts_of, Fitting.is_of}
use Rattle.result_check.{specs.Watching.IsWatched, proofs.Watching.{lines_stay, watched_paired, watched_apart}}
use Rattle.result_check.proofs.watched.Watched.pass_write.Goals as goal

pub overflow_sub-lines : goal.overflow_sub-lines
overflow_sub-lines g c =
    let m = c.args.member in
    let members = c.self.inside.bank.members.items in
    let stood : c.len-stood.result ≡ length members = search rules in
    let mates : list_any (is_of m.line) members ≡ true = ap (list_any (is_of m.line)) (sym c.deref.ensures.value) ∙ sym c.has_line-has_mates.ensures ∙ c.if-has_mates.true in
    let k = lines_stay c.self.inside.next c.self.inside.twins (facts_of c.self.inside.bank) (facts_of c.pass_write.new.self) c.self.invariant
    m.line m c.args.outcome.now refl c.in_ok-pass_write.ensures.ok mates in
    omega (arith, k.0, stood)

pub overflow_sub-self : goal.overflow_sub-self
overflow_sub-self g c =
    let m = c.args.member in
    let members = c.self.inside.bank.members.items in
    let stood : c.len-stood.result ≡ length members = search rules in
    let stand : c.len.result ≡ length c.pass_write.new.self.members.items = search rules in
    let mates : list_any (is_of m.line) members ≡ true = ap (list_any (is_of m.line)) (sym c.deref.ensures.value) ∙ sym c.has_line-has_mates.ensures ∙ c.if-has_mates.true in
    let k = lines_stay c.self.inside.next c.self.inside.twins (facts_of c.self.inside.bank) (facts_of c.pass_write.new.self) c.self.invariant
    m.line m c.args.outcome.now refl c.in_ok-pass_write.ensures.ok mates in
    omega (arith, k.0, k.1, stood, stand)

pub invariant_of-self-then-has_mates : goal.invariant_of-self-then-has_mates
invariant_of-self-then-has_mates g c =
    let m = c.args.member in
    let members = c.self.inside.bank.members.items in
    let behind = facts_of c.pass_write.new.self in
    let twins = c.self.inside.twins in
    let stood : length members ≡ c.len-stood.result = search rules in
    let stand : length c.pass_write.new.self.members.items ≡ c.len.result = search rules in
    let mates : list_any (is_of m.line) members ≡ true = ap (list_any (is_of m.line)) (sym c.deref.ensures.value) ∙ sym c.has_line-has_mates.ensures ∙ c.if-has_mates.true in
    let k = watched_paired c.self.inside.next twins (facts_of c.self.inside.bank) behind c.self.invariant m.line m c.args.outcome.now refl c.in_ok-pass_write.ensures.ok mates in
    subst (λ next. IsWatched next (c.len.result - (c.len-stood.result - twins)) behind) (sym c.min-self-inside.ensures)
    (subst (λ stand. IsWatched (min c.self.inside.next m.end) (stand - (c.len-stood.result - twins)) behind) stand
    (subst (λ stood. IsWatched (min c.self.inside.next m.end) (length behind.members - (stood - twins)) behind) stood k))

pub invariant_of-self-else-has_mates : goal.invariant_of-self-else-has_mates
invariant_of-self-else-has_mates g c =
    let m = c.args.member in
    let members = c.self.inside.bank.members.items in
    let behind = facts_of c.pass_write.new.self in
    let none : list_any (is_of m.line) members ≡ false = ap (list_any (is_of m.line)) (sym c.deref.ensures.value) ∙ sym c.has_line-has_mates.ensures ∙ c.if-has_mates.false in
    subst (λ next. IsWatched next c.self.inside.twins behind) (sym c.min-self-inside.ensures)
    (watched_apart c.self.inside.next c.self.inside.twins (facts_of c.self.inside.bank) behind c.self.invariant m.line m c.args.outcome.now refl c.in_ok-pass_write.ensures.ok none)
