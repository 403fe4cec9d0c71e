-- What the laws of a bank's table say of a row, by its outcome.
use Rattle.std.proofs.Common.{◌≡◌, ℕ, ◌+◌, ◌-◌, ◌*◌, ◌/◌, ◌%◌, ◌<◌, ◌≤◌, ◌==◌, ◌&&◌, ◌||◌, not, Bool, true, false, List, [], ◌∷◌, length, Some, inl, inr, refl, sym, ap, ◌∙◌, subst, arith, cond, eqb-true}
use Rattle.std.{specs.Option.ForSome, specs.Prelude.{nat_le, All, map}, proofs.lemmas.Bool.{ltb-true, leb-true, or_cases}}
use Rattle.std.proofs.lemmas.List.Elements.{All-nil, All-cons, All-head, All-tail}
use Rattle.masked_bytes.{specs.Masked.gives_all, proofs.Truth.{and_first, and_second}}
use Rattle.result_rows.specs.{Outcomes.{op_of, place_of}, declared.Op.Op, declared.Outcome.Outcome}
use Rattle.result_rows.specs.declared.Op.TheVariants as op
use Rattle.result_rows.specs.declared.Outcome.TheVariants as out
use Rattle.row_rules.specs.{Answers.{accepts, is_queued, is_lost, is_busy, is_forwarded, is_answered}, Queueing.{waiting, queue_fits, cover, is_at_head}}
use Rattle.row_rules.specs.{Rows.{each_row, asks_read, is_cut, op_asked}, Serving.may_have, Table.{is_of, of_bank}, Ticking.{first_cut_at, is_in_time, read_in_time, asks_in_time}}
use Rattle.row_rules.specs.{declared.Asks.Asks, declared.Asks.TheVariants.{Reads, Writes, Cuts}, declared.Row.Row, declared.Rules.Rules}
use Rattle.run_text.specs.Shortfall.{is_short}
use Rattle.right_runs.specs.{Places.{is_place_after, is_place_about, outcome_placed}, Tables.{row_in, bank_table}}
use Rattle.module_laws.proofs.Serving.{cuts-named}
use Rattle.bank_shape.specs.{Shape.{slots_of, slot_moved, lines_in}, declared.BankShape.BankShape}
use Rattle.place_laws.proofs.Slots.{slot_moved-within}
use Rattle.run_laws.proofs.Lifting.{Each}

-- an outcome that a row may have is of its operation
pub own_outcome : {n : ℕ} (tick : ℕ) (asks : Asks n) (newest : List ℕ) (o : Outcome n) → may_have tick asks newest o ≡ true → op_of o ≡ Some (op_asked asks)
own_outcome tick (Writes line bytes given) newest (out.Stored at place) h = refl
own_outcome tick (Writes line bytes given) newest (out.Merged at) h = refl
own_outcome tick (Writes line bytes given) newest (out.Queued at) h = refl
own_outcome tick (Writes line bytes given) newest (out.Full at) h = refl
own_outcome tick (Writes line bytes given) newest (out.Worn at) h = refl
own_outcome tick (Reads line) newest (out.Read at place some) h = refl
own_outcome tick (Reads line) newest (out.Forwarded at some) h = refl
own_outcome tick (Reads line) newest (out.Busy at) h = refl
own_outcome tick (Reads line) newest (out.Lost at) h = refl
own_outcome tick Cuts newest (out.Cut at) h = refl
own_outcome tick _ newest _ h = absurd (cc)

-- ---- places

-- a cut has no place
pub cut-nowhere : {n : ℕ} (o : Outcome n) → op_of o ≡ Some op.Cut → (place : ℕ) → place_of o ≡ Some place → ⊥
cut-nowhere (out.Stored at place) own other is = absurd (cc own)
cut-nowhere (out.Read at place bytes) own other is = absurd (cc own)
cut-nowhere _ own other is = absurd (cc is)

-- an array line of a bank
pub record IsOfBank (shape : BankShape) (place : ℕ) : Type 0 where
  pub from : shape.base ≤ place
  pub below : place < shape.base + lines_in shape

module _ (shape : BankShape) (worn : ℕ → Bool) (line place : ℕ) (some : 1 ≤ shape.lines) (of : line < shape.regions * shape.lines) where
  after-of_bank : (moves : ℕ) → is_place_after shape worn line place moves ≡ true → IsOfBank shape place
  after-of_bank moves h =
      elim (or_cases (place == shape.base + slot_moved shape line moves) _ h) [
        | inl home ↦
            let within = slot_moved-within shape line moves some of in
            let at : place ≡ shape.base + slot_moved shape line moves = eqb-true place (shape.base + slot_moved shape line moves) home in
            record { from = omega (arith, at); below = omega (arith, at, within) }
        | inr spare ↦
            let range = and_second (worn (shape.base + slot_moved shape line moves)) _ spare in
            let low = leb-true (shape.base + slots_of shape) place (and_first _ _ range) in
            let high = ltb-true place (shape.base + slots_of shape + shape.spares) (and_second (nat_le (shape.base + slots_of shape) place) _ range) in
            record { from = omega (arith, low); below = omega (arith, high) }
      ]

  about-of_bank : (count : ℕ) → is_place_about shape worn line place count ≡ true → IsOfBank shape place
  about-of_bank count h =
      elim (or_cases (is_place_after shape worn line place (count / shape.psi)) _ h) [
        | inl now ↦ after-of_bank (count / shape.psi) now
        | inr due ↦ after-of_bank (count / shape.psi - 1) (and_second (not (count == 0)) _ (and_second (count % shape.psi == 0) _ due))
      ]

-- the place of a row that is placed is an array line of the bank
pub placed-of_bank : {n : ℕ} (shape : BankShape) (worn : ℕ → Bool) (line : ℕ) (all : List (Row n)) (o : Outcome n) → 1 ≤ shape.lines → line < shape.regions * shape.lines
    → outcome_placed shape worn line all o ≡ true → ForSome (place_of o) (λ place. IsOfBank shape place)
placed-of_bank shape worn line all (out.Stored tick at) some of h =
    λ place is. subst (λ (p : ℕ). IsOfBank shape p) (cc is) (after-of_bank shape worn line at some of _ h)
placed-of_bank shape worn line all (out.Read tick at bytes) some of h =
    λ place is. subst (λ (p : ℕ). IsOfBank shape p) (cc is) (about-of_bank shape worn line at some of _ h)
placed-of_bank shape worn line all _ some of h = λ place is. absurd (cc is)

-- ---- lost reads

abbrev Uncut : {n : ℕ} → Row n → Type 0
Uncut r = is_cut r ≡ false

no_first_cut : {n : ℕ} (u : ℕ) (rows : List (Row n)) → All Uncut rows → first_cut_at u rows ≡ false
no_first_cut u [] all = refl
no_first_cut u (q ∷ rows) all =
    ap (λ (b : Bool). cond b (q.tick == u) (first_cut_at u rows)) (All-head Uncut q rows all) ∙ no_first_cut u rows (All-tail Uncut q rows all)

read-kept : {n : ℕ} (rules : Rules) (tick : ℕ) (o : Outcome n) (before after : List (Row n)) → All Uncut after → read_in_time rules tick o before after ≡ true → is_lost o ≡ false
read-kept rules tick (out.Lost u) before after all h =
    let none = no_first_cut u after all in
    let some = and_first (first_cut_at u after) _ h in
    absurd (cc (none, some))
read-kept rules tick _ before after all h = refl

-- a read isn't lost
abbrev pub IsKept : {n : ℕ} → List (Row n) → Row n → Type 0
IsKept before r = asks_read r.asks ≡ true → is_lost r.outcome ≡ false

row-kept : {n : ℕ} (rules : Rules) (r : Row n) (asks : Asks n) (before after : List (Row n)) → All Uncut after → asks_in_time rules r asks before after ≡ true → asks_read asks ≡ true → is_lost r.outcome ≡ false
row-kept rules r (Reads line) before after all h is = read-kept rules r.tick r.outcome before after all h
row-kept rules r (Writes line bytes given) before after all h is = absurd (cc)
row-kept rules r Cuts before after all h is = absurd (cc)

-- where no row is a cut, no read is lost
pub reads-kept : {n : ℕ} (rules : Rules) (rows after : List (Row n)) → All Uncut rows → All Uncut after → each_row (is_in_time rules) rows after ≡ true → Each IsKept rows
reads-kept rules [] after uncut all h = tt
reads-kept rules (r ∷ before) after uncut all h = (
  row-kept rules r r.asks before after all (and_first (asks_in_time rules r r.asks before after) _ (and_first (is_in_time rules before r after) _ h)),
  reads-kept rules before (r ∷ after) (All-tail Uncut r before uncut) (All-cons Uncut r after (All-head Uncut r before uncut) all)
      (and_second (is_in_time rules before r after) _ h),
)

module _ {n : ℕ} (bank_of line_in : ℕ → ℕ) (bank : ℕ) where
  -- a bank's table has no more cuts than the module's
  pub uncut_in_bank : (rows : List (Row n)) → All Uncut rows → All Uncut (bank_table bank_of line_in bank rows)
  uncut_in_bank [] all = All-nil Uncut
  uncut_in_bank (r ∷ rows) all = by (is_of bank_of bank r.asks) (uncut_in_bank rows (All-tail Uncut r rows all))
    where
      by : (own : Bool) → All Uncut (bank_table bank_of line_in bank rows)
          → All Uncut (map (row_in bank_of line_in) (cond own (r ∷ of_bank bank_of bank rows) (of_bank bank_of bank rows)))
      by true ih =
          All-cons Uncut (row_in bank_of line_in r) (bank_table bank_of line_in bank rows)
          (cuts-named bank_of line_in r.asks ∙ All-head Uncut r rows all) ih
      by false ih = ih

-- ---- busy reads

busy-alone : {n : ℕ} (o : Outcome n) → is_busy o ≡ true → (is_forwarded o ≡ false) × (is_answered o ≡ false) × (is_lost o ≡ false)
busy-alone (out.Busy at) is = (refl, refl, refl)
busy-alone _ is = absurd (cc)

busy-fits : (reads count : ℕ) (covered at_head full forwarded answered lost : Bool) → (count == reads) ≡ full → forwarded ≡ false → answered ≡ false → lost ≡ false
    → cond covered forwarded (cond forwarded at_head (cond full true (answered || lost))) ≡ true → count ≡ reads
busy-fits reads count covered at_head true forwarded answered lost is f a l h = eqb-true count reads is
busy-fits reads count true at_head false forwarded answered lost is f a l h = absurd (cc)
busy-fits reads count false at_head false true answered lost is f a l h = absurd (cc)
busy-fits reads count false at_head false false true lost is f a l h = absurd (cc)
busy-fits reads count false at_head false false false lost is f a l h = absurd (cc)

-- a busy read finds as many reads waiting as may
abbrev pub IsBusyFair : {n : ℕ} → ℕ → List (Row n) → Row n → Type 0
IsBusyFair reads before r = asks_read r.asks ≡ true → is_busy r.outcome ≡ true → length (waiting r.tick [] before) ≡ reads

pub busy-fair : {n : ℕ} (rules : Rules) (r : Row n) (asks : Asks n) (ps : List (Row n)) (before after : List (Row n))
    → queue_fits rules ps (waiting r.tick [] before) r asks before after ≡ true → asks_read asks ≡ true → is_busy r.outcome ≡ true
    → length (waiting r.tick [] before) ≡ rules.reads
busy-fair rules r (Reads line) ps before after h is busy =
    let alone = busy-alone r.outcome busy in
    busy-fits rules.reads (length (waiting r.tick [] before)) (gives_all (cover r.tick line before after)) (is_at_head r.tick line ps before after)
    (length (waiting r.tick [] before) == rules.reads) (is_forwarded r.outcome) (is_answered r.outcome) (is_lost r.outcome) refl alone.0 alone.1 alone.2
    (ap (λ (b : Bool). cond (gives_all (cover r.tick line before after)) (is_forwarded r.outcome)
    (cond (is_forwarded r.outcome) (is_at_head r.tick line ps before after) (cond (length (waiting r.tick [] before) == rules.reads) b (is_answered r.outcome || is_lost r.outcome)))) (sym busy) ∙ h)
busy-fair rules r (Writes line bytes given) ps before after h is busy = absurd (cc)
busy-fair rules r Cuts ps before after h is busy = absurd (cc)

-- ---- writes that find room

pub taken-parts : (free leave takes queued : Bool) → free ≡ true → leave ≡ false → (not (free && not leave) || (takes && not queued)) ≡ true → (takes ≡ true) × (queued ≡ false)
taken-parts true false true false f l h = (refl, refl)
taken-parts _ _ _ _ f l h = absurd (cc)

-- ---- outcomes that fall short

pub write-unshort : {n : ℕ} (o : Outcome n) → accepts o ≡ true → is_queued o ≡ false → is_short o ≡ false
write-unshort (out.Stored at place) takes left = refl
write-unshort (out.Merged at) takes left = refl
write-unshort _ takes left = absurd (cc)

pub read-unshort : {n : ℕ} (o : Outcome n) → op_of o ≡ Some op.Read → is_lost o ≡ false → (is_busy o ≡ true → ⊥) → is_short o ≡ false
read-unshort (out.Read at place bytes) own kept free = refl
read-unshort (out.Forwarded at bytes) own kept free = refl
read-unshort (out.Busy at) own kept free = absurd (free refl)
read-unshort _ own kept free = absurd (cc)

pub cut-unshort : {n : ℕ} (o : Outcome n) → op_of o ≡ Some op.Cut → is_short o ≡ false
cut-unshort (out.Cut at) own = refl
cut-unshort _ own = absurd (cc)

-- an outcome of a write or a cut isn't that of a lost read
pub unread-kept : {n : ℕ} (o : Outcome n) (asked : Op) → op_of o ≡ Some asked → (asked ≡ op.Read → ⊥) → is_lost o ≡ false
unread-kept (out.Lost at) asked own other = absurd (other (cc own))
unread-kept _ asked own other = refl
