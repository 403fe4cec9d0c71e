-- What an action needs of its bank.
use Rattle.std.proofs.Common.{◌≡◌, ℕ, ◌<◌, ◌==◌, ◌||◌, ◌&&◌, not, nat_lt, if◌then◌else◌, Bool, true, false, List, [], ◌∷◌, ◌++◌, length, Option, Some, None, is_some, refl, sym, ap, subst, ◌∙◌, arith, ltb-true, lt-ltb}
use Rattle.std.{specs.List.list_any, specs.Prelude.IfSome, proofs.lemmas.Bool.{and_from, not-true, or_parts}, proofs.lemmas.List.length-append}
use Rattle.masked_bytes.{specs.Entries.layer_of, specs.declared.entry.Entry.Entry, proofs.Truth.{and_first, and_second, differ_sym}}
use Rattle.bank_shape.specs.{Acting.{choice, chosen_by}, Pausing.gives_way, declared.Work.Work, declared.Work.TheVariants.{Nothing, Store, Copy}, declared.clock.Action.Action}
use Rattle.bank_shape.specs.{declared.clock.Doing.Doing, declared.clock.Doing.TheVariants.{Serving, Beginning, Iterating}, declared.waiting.Waiting.Waiting}
use Rattle.power_recovery.specs.{Events.accepted_kept, Kept.{KeptState, next_work}}
use Rattle.bank_model.specs.{After.is_store_of, Running.{busy_by, ready_by}}
use Rattle.reg_lines.specs.{Regs.RegsState, declared.Change.Change}
use Rattle.register_laws.specs.Telling.{item_of}
use Rattle.bank_invariant.specs.{Serving.{kept_with, waits_too}, State.{BankState, is_free, may_begin}, Writes.taken}
use Rattle.clock_laws.specs.{Arriving.drops, Fitting.{Fits, IsFit, HasEnded, NeedsLaw, ChosenLaw, RestLaw, FitWriteLaw, FitReadLaw}}
use Rattle.clock_laws.specs.State.{is_busy, may_start, or_else, started_at, chosen}

-- Choices

pub chosen_law : ChosenLaw
chosen_law n m e clock fit =
    by clock.action fit
    (which (gives_way clock.pace.policy) (nat_lt 0 (length clock.bank.waiting)) (is_busy clock.bank clock.regs) (may_start clock.bank clock.regs)
    (ltb-true 0 (length clock.bank.waiting)) (λ is. is) (λ is. is))
  where
    which : (gives reads busy ready : Bool) → (reads ≡ true → 0 < length clock.bank.waiting) → (busy ≡ true → is_busy clock.bank clock.regs ≡ true) → (ready ≡ true → may_start clock.bank clock.regs ≡ true)
        → IfSome (chosen_by gives reads (choice busy ready)) (λ doing. Fits clock.bank clock.regs doing)
    which gives reads busy ready waits runs may = grind arith

    later : (d : Option Doing) → IfSome d (λ doing. Fits clock.bank clock.regs doing) → IsFit clock.bank clock.regs (started_at clock.tick d)
    later d own = grind arith

    by : (r : Option Action) → IsFit clock.bank clock.regs r → IfSome (chosen clock) (λ doing. Fits clock.bank clock.regs doing) → IsFit clock.bank clock.regs (or_else r (started_at clock.tick (chosen clock)))
    by (Some action) own next = own
    by None own next = later (chosen clock) next

-- Needs

-- what isn't some is none
pub no_one : {A : Type 0} (o : Option A) → is_some o ≡ false → o ≡ None
no_one o none = grind arith

pub needs_law : NeedsLaw
needs_law n m e bank regs = record {
  begins = λ none own. by regs.change (is_some regs.writer || regs.halted) (may_begin bank) none own;
  iterates = λ none own. of_bank regs.change (is_some regs.writer) (is_some bank.running) none own;
  begins_change = λ some own.
      let none = or_parts (is_some regs.writer) regs.halted
      (not-true _ (of_change regs.change (is_some regs.writer || regs.halted) (may_begin bank) some own)) in
      (no_one regs.writer none.0, none.1);
  iterates_change = λ some own. writes regs.change (is_some regs.writer) (is_some bank.running) some own;
}
  where
    by : (change : Option Change) (stopped ready : Bool) → change ≡ None → ready_by (item_of change) stopped ready ≡ true → ready ≡ true
    by change stopped ready none own = grind arith

    of_bank : (change : Option Change) (keeping busy : Bool) → change ≡ None → busy_by (item_of change) keeping busy ≡ true → busy ≡ true
    of_bank change keeping busy none own = grind arith

    of_change : (change : Option Change) (stopped ready : Bool) → is_some change ≡ true → ready_by (item_of change) stopped ready ≡ true → not stopped ≡ true
    of_change change stopped ready some own = grind arith

    writes : (change : Option Change) (keeping busy : Bool) → is_some change ≡ true → busy_by (item_of change) keeping busy ≡ true → keeping ≡ true
    writes change keeping busy some own = grind arith

-- Rest

-- where nothing is chosen, there is nothing to choose
none-by : (gives reads busy ready : Bool) → chosen_by gives reads (choice busy ready) ≡ None → (reads ≡ false) × (busy ≡ false) × (ready ≡ false)
none-by gives reads busy ready none = grind arith

none-else : (r : Option Action) (d : Option Doing) (now : ℕ) → or_else r (started_at now d) ≡ None → (r ≡ None) × (d ≡ None)
none-else r d now none = grind arith

none-waits : {n : ℕ} (ws : List (Waiting n)) → nat_lt 0 (length ws) ≡ false → ws ≡ []
none-waits [] none = refl
none-waits (w ∷ ws) none = let some : nat_lt 0 (length (w ∷ ws)) ≡ true = lt-ltb 0 (length (w ∷ ws)) (omega arith) in cc

pub rest_law : RestLaw
rest_law n m e clock none =
    let idle = none-else clock.action (chosen clock) clock.tick none in
    let no = none-by (gives_way clock.pace.policy) (nat_lt 0 (length clock.bank.waiting)) (is_busy clock.bank clock.regs) (may_start clock.bank clock.regs) idle.1 in
    let reads : clock.bank.waiting ≡ [] = none-waits clock.bank.waiting no.0 in
    (idle.0, reads, ended clock.regs.change refl reads no.1 no.2)
  where
    ended : (change : Option Change) → clock.regs.change ≡ change → clock.bank.waiting ≡ []
        → busy_by (item_of change) (is_some clock.regs.writer) (is_some clock.bank.running) ≡ false
        → ready_by (item_of change) (is_some clock.regs.writer || clock.regs.halted) (may_begin clock.bank) ≡ false → HasEnded clock.bank clock.regs
    ended change is reads busy ready = grind arith

-- Writes

module _ {n : ℕ} where
  -- the work that may be begun stays the next
  next-stays : (kept : KeptState n) (busy : Bool) (entry : Entry n) (ws : List (Waiting n)) (work : Work) → next_work kept ≡ work → is_free ws work ≡ true
      → next_work (accepted_kept busy entry kept) ≡ next_work kept
  next-stays kept busy entry ws work is free = grind arith

module _ {n m e : ℕ} where
  begin-taken : (bank : BankState n m e) (busy : Bool) (entry : Entry n) → may_begin bank ≡ true → may_begin (taken busy entry bank) ≡ true
  begin-taken bank busy entry own =
      let free : is_free bank.waiting (next_work bank.kept) ≡ true = and_second (not (is_some bank.running)) _ own in
      let still : next_work (accepted_kept busy entry bank.kept) ≡ next_work bank.kept = next-stays bank.kept busy entry bank.waiting (next_work bank.kept) refl free in
      ap (λ work. not (is_some bank.running) && is_free bank.waiting work) still ∙ own

  fit-taken : (bank : BankState n m e) (regs : RegsState n m e) (busy : Bool) (entry : Entry n) (doing : Doing) → Fits bank regs doing → Fits (taken busy entry bank) regs doing
  fit-taken bank regs busy entry Serving own = own
  fit-taken bank regs busy entry Iterating own = own
  fit-taken bank regs busy entry Beginning own = by regs.change own
    where
      by : (change : Option Change) → ready_by (item_of change) (is_some regs.writer || regs.halted) (may_begin bank) ≡ true
          → ready_by (item_of change) (is_some regs.writer || regs.halted) (may_begin (taken busy entry bank)) ≡ true
      by None own = begin-taken bank busy entry own
      by (Some change) own = own

pub fit_write_law : FitWriteLaw
fit_write_law n m e entry None bank regs fit = tt
fit_write_law n m e entry (Some action) bank regs fit = fit-taken bank regs _ entry action.doing fit

-- Reads

any-push : {n : ℕ} (at : ℕ) (ws : List (Waiting n)) (w : Waiting n) → (w.line == at) ≡ false → list_any (λ w. w.line == at) ws ≡ false → list_any (λ w. w.line == at) (ws ++ w ∷ []) ≡ false
any-push at [] w off none = ap (λ b. b || false) off
any-push at (v ∷ ws) w off none = by (v.line == at) none (any-push at ws w off)
  where
    by : (b : Bool) → (b || list_any (λ w. w.line == at) ws) ≡ false → (list_any (λ w. w.line == at) ws ≡ false → list_any (λ w. w.line == at) (ws ++ w ∷ []) ≡ false)
        → (b || list_any (λ w. w.line == at) (ws ++ w ∷ [])) ≡ false
    by true none rest = cc
    by false none rest = rest none

-- a work that may be begun may still be, where the read isn't of the line that it stores
free-stays : {n : ℕ} (work : Work) (ws : List (Waiting n)) (w : Waiting n) → is_store_of w.line work ≡ false → is_free ws work ≡ true → is_free (ws ++ w ∷ []) work ≡ true
free-stays Nothing ws w off free = cc
free-stays (Store line slot) ws w off free =
    ap (λ b. not b) (any-push line ws w (differ_sym line w.line off) (not-true _ free))
free-stays (Copy region step) ws w off free = free

fit-waits : {n m e : ℕ} (bank : BankState n m e) (regs : RegsState n m e) (row line first : ℕ) (doing : Doing) → Fits bank regs doing
    → IsFit (waits_too bank row line) regs (if drops bank.kept regs.change line (Some (record { doing = doing; first = first })) then None else Some (record { doing = doing; first = first }))
fit-waits bank regs row line first Serving own = by (drops bank.kept regs.change line (Some (record { doing = Serving; first = first })))
  where
    by : (b : Bool) → IsFit (waits_too bank row line) regs (if b then None else Some (record { doing = Serving; first = first }))
    by true = tt
    by false = omega (arith, length-append bank.waiting (kept_with row line (layer_of bank.kept.entries line) ∷ []))
fit-waits bank regs row line first Iterating own = by (drops bank.kept regs.change line (Some (record { doing = Iterating; first = first })))
  where
    by : (b : Bool) → IsFit (waits_too bank row line) regs (if b then None else Some (record { doing = Iterating; first = first }))
    by b = grind arith
fit-waits {n} {m} {e} bank regs row line first Beginning own = by regs.change own refl
  where
    first_action : Action
    first_action = record { doing = Beginning; first = first }

    stays : (b : Bool) → is_store_of line (next_work bank.kept) ≡ b → may_begin bank ≡ true → IfSome (if b then None else Some first_action) (λ a. may_begin (waits_too bank row line) ≡ true)
    stays true is own = tt
    stays false is own =
        and_from (not (is_some bank.running)) _ (and_first (not (is_some bank.running)) _ own)
        (free-stays (next_work bank.kept) bank.waiting (kept_with row line (layer_of bank.kept.entries line)) is (and_second (not (is_some bank.running)) _ own))

    fits : (b : Bool) → (regs.change ≡ None) → IfSome (if b then None else Some first_action) (λ a. may_begin (waits_too bank row line) ≡ true)
        → IsFit (waits_too bank row line) regs (if b then None else Some first_action)
    fits b none own = grind arith

    by : (change : Option Change) → ready_by (item_of change) (is_some regs.writer || regs.halted) (may_begin bank) ≡ true → regs.change ≡ change
        → IsFit (waits_too bank row line) regs (if drops bank.kept regs.change line (Some first_action) then None else Some first_action)
    by None own is =
        subst (λ (b : Bool). IsFit (waits_too bank row line) regs (if b then None else Some first_action))
        (ap (λ (change : Option Change). drops bank.kept change line (Some first_action)) (sym is))
        (fits (is_store_of line (next_work bank.kept)) is (stays (is_store_of line (next_work bank.kept)) refl own))
    by (Some change) own is =
        subst (λ (b : Bool). IsFit (waits_too bank row line) regs (if b then None else Some first_action))
        (ap (λ (change : Option Change). drops bank.kept change line (Some first_action)) (sym is))
        (ap (λ (change : Option Change). ready_by (item_of change) (is_some regs.writer || regs.halted) (may_begin (waits_too bank row line))) is ∙ own)

pub fit_read_law : FitReadLaw
fit_read_law n m e row line None bank regs fit = none (drops bank.kept regs.change line None)
  where
    none : (b : Bool) → IsFit (waits_too bank row line) regs (if b then None else None)
    none true = tt
    none false = tt
fit_read_law n m e row line (Some action) bank regs fit = fit-waits bank regs row line action.first action.doing fit
