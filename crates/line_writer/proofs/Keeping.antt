-- Each phase keeps what it has settled, whatever a pulse or a tear of its cells does.
use Rattle.std.proofs.Common.{◌≡◌, ◌≢◌, ℕ, ◌+◌, ◌-◌, ◌<◌, ◌≤◌, ◌⊎◌, ◌&&◌, Bool, true, false, List, sym, ap, ◌∙◌, inl, inr, arith, eqb, ltb, leb}
use Rattle.std.proofs.lemmas.Bool.{cases_eq, cases_lt, cases_Bool, and_parts, ltb-true, leb-true, eqb-true, eq-eqb, ne_eqb, cond-true, cond-false, false_from_ne_true}
use Rattle.cell_rows.specs.Rows.{bit_of, xor}
use Rattle.ecp_line.specs.Layout.{active, activity_cell, full_cell, replacement_cell, pointer_cell, source_below, pointer, is_pointer_cell, switch_cell, Prefix, IsLayout}
use Rattle.ecp_line.proofs.Activity.{active-full, active-kept, active-is, active-within, open-within, activity-ones, activity-zero}
use Rattle.ecp_line.proofs.{Places.{entry-order, entries-order, activity-lt, pointer-lt}, Sources.{source-same, source-lt, source-no_pointer}}
use Rattle.line_writer.{specs.Phases.{IsCleared, IsReady, IsClearing, IsFilling, IsPointing, IsSwitching}, proofs.Leaving.{Leaves, pointers-left, Prefix-left}}

-- ---- clearing

-- only activity cells behind the first 0 are touched
pub clearing-within : (B E w : ℕ) (want which f : ℕ → Bool) → IsClearing B E w want which f → (n : ℕ) → which n ≡ true
    → (activity_cell B E + w < n) × (n < activity_cell B E + (E - 1))
clearing-within B E w want which f phase n h =
    let (low, high) = and_parts (ltb (activity_cell B E + active B E f) n) (ltb n (activity_cell B E + (E - 1))) (sym (phase.cells n) ∙ h) in
    let e = phase.entries in
    let a = ltb-true _ _ low in let b = ltb-true _ _ high in (omega arith, b)

pub clearing-apart : (B E w : ℕ) (want which f : ℕ → Bool) → IsClearing B E w want which f
    → (i n : ℕ) → i < w → pointer_cell B i ≤ n → n < replacement_cell B i → which n ≡ true → ⊥
clearing-apart B E w want which f phase i n l low high h =
    let (a, b) = clearing-within B E w want which f phase n h in
    let t = entry-order B i (E - 1) (omega arith) in omega arith

pub clearing-active : (B M E w : ℕ) (want which f s g t : ℕ → Bool) → IsLayout B M E → Leaves which f s g t → IsClearing B E w want which f → active B E g ≡ w
clearing-active B M E w want which f s g t layout leaves phase =
    let e = phase.entries in
    active-kept B E f g (leaves.others (full_cell B E) (false_from_ne_true _ full))
    (λ i l m. leaves.others (activity_cell B E + i) (false_from_ne_true _ (λ h. let (a, b) = clearing-within B E w want which f phase (activity_cell B E + i) h in omega arith)))
    ∙ phase.entries
  where
    full : which (full_cell B E) ≡ true → ⊥
    full h =
        let (a, b) = clearing-within B E w want which f phase (full_cell B E) h in
        let two = layout.two in let most = layout.most in
        let t = entry-order B (E - 1) E (omega arith) in omega arith

pub clearing-kept : (B M E w : ℕ) (want which f s g t : ℕ → Bool) → IsLayout B M E → Leaves which f s g t → IsClearing B E w want which f → IsClearing B E w want which g
clearing-kept B M E w want which f s g t layout leaves phase =
    let same = clearing-active B M E w want which f s g t layout leaves phase in
    record {
      entries = same;
      cells = λ n. phase.cells n ∙ ap (λ (k : ℕ). ltb (activity_cell B E + k) n && ltb n (activity_cell B E + (E - 1))) (phase.entries ∙ sym same);
      zero = phase.zero;
    }

-- ---- filling

filling-within : (B E w : ℕ) (bytes : List ℕ) (want which f : ℕ → Bool) → IsFilling B E w bytes want which f
    → (i n : ℕ) → pointer_cell B i ≤ n → n < replacement_cell B i → which n ≡ true → ⊥
filling-within B E w bytes want which f phase i n low high h =
    let (x, l, e) = phase.wanted.masked n h in
    let t = source-no_pointer B f x w i l (omega arith) in omega arith

pub filling-apart : (B E w : ℕ) (bytes : List ℕ) (want which f : ℕ → Bool) → IsFilling B E w bytes want which f
    → (i n : ℕ) → i < w → pointer_cell B i ≤ n → n < replacement_cell B i → which n ≡ true → ⊥
filling-apart B E w bytes want which f phase i n l = filling-within B E w bytes want which f phase i n

-- a cell from that of `full` on is no source
pub filling-full : (B E w : ℕ) (bytes : List ℕ) (want which f : ℕ → Bool) → IsFilling B E w bytes want which f → (n : ℕ) → full_cell B E ≤ n → which n ≡ true → ⊥
filling-full B E w bytes want which f phase n le h =
    let (x, l, e) = phase.wanted.masked n h in
    let t = source-lt B f x w l in
    let top = active-within B E f in let count = phase.entries in
    let order = entries-order B w E (omega arith) in omega arith

pub filling-active : (B M E w : ℕ) (bytes : List ℕ) (want which f s g t : ℕ → Bool) → IsLayout B M E → Leaves which f s g t → IsFilling B E w bytes want which f → active B E g ≡ w
filling-active B M E w bytes want which f s g t layout leaves phase =
    active-kept B E f g (leaves.others (full_cell B E) (false_from_ne_true _ (filling-full B E w bytes want which f phase (full_cell B E) (omega arith))))
    (λ i l m. let room = activity-lt B M E i layout l in
    leaves.others (activity_cell B E + i) (false_from_ne_true _ (filling-within B E w bytes want which f phase (E - 1) (activity_cell B E + i) (omega arith) room)))
    ∙ phase.entries

pub filling-kept : (B M E w : ℕ) (bytes : List ℕ) (want which f s g t : ℕ → Bool) → IsLayout B M E → Leaves which f s g t → IsFilling B E w bytes want which f → IsFilling B E w bytes want which g
filling-kept B M E w bytes want which f s g t layout leaves phase =
    let at : ((x : ℕ) → source_below B f x w ≡ source_below B g x w) =
    λ x. source-same B f g x w (pointers-left B w which f s g t leaves (filling-apart B E w bytes want which f phase)) in
    record {
      entries = filling-active B M E w bytes want which f s g t layout leaves phase;
      cleared = λ n low high.
          leaves.others n (false_from_ne_true _ (filling-within B E w bytes want which f phase (E - 1) n (omega arith) (let m = layout.most in omega arith))) ∙ phase.cleared n low high;
      wanted = record {
        sources = λ x l. let (a, b) = phase.wanted.sources x l in (ap which (sym (at x)) ∙ a, ap want (sym (at x)) ∙ b);
        masked = λ n h. let (x, l, e) = phase.wanted.masked n h in (x, l, e ∙ at x);
        others = λ n h. phase.wanted.others n h ∙ sym (leaves.others n h);
      };
    }

-- ---- pointing

pub pointer-cell : (B w : ℕ) (which : ℕ → Bool) → ((n : ℕ) → which n ≡ is_pointer_cell B w n) → (n : ℕ) → which n ≡ true → (pointer_cell B w ≤ n) × (n < replacement_cell B w)
pointer-cell B w which cells n h =
    let (low, high) = and_parts (leb (pointer_cell B w) n) (ltb n (replacement_cell B w)) (sym (cells n) ∙ h) in
    (leb-true _ _ low, ltb-true _ _ high)

pub pointing-apart : (B w : ℕ) (which : ℕ → Bool) → ((n : ℕ) → which n ≡ is_pointer_cell B w n)
    → (i n : ℕ) → i < w → pointer_cell B i ≤ n → n < replacement_cell B i → which n ≡ true → ⊥
pointing-apart B w which cells i n l low high h =
    let (from, to) = pointer-cell B w which cells n h in
    let t = entry-order B i w l in omega arith

-- an activity cell is a pointer cell of the last entry alone
pointing-activity : (B E w : ℕ) (which : ℕ → Bool) → ((n : ℕ) → which n ≡ is_pointer_cell B w n) → w < E - 1 → (n : ℕ) → activity_cell B E ≤ n → which n ≡ true → ⊥
pointing-activity B E w which cells l n low h =
    let (from, to) = pointer-cell B w which cells n h in
    let t = entry-order B w (E - 1) l in omega arith

pointing-full : (B E w : ℕ) (which : ℕ → Bool) → ((n : ℕ) → which n ≡ is_pointer_cell B w n) → w < E → which (full_cell B E) ≡ true → ⊥
pointing-full B E w which cells l h =
    let (from, to) = pointer-cell B w which cells (full_cell B E) h in
    let t = entry-order B w E l in omega arith

pointing-active : (B E w : ℕ) (which f s g t : ℕ → Bool) → Leaves which f s g t → ((n : ℕ) → which n ≡ is_pointer_cell B w n) → w < E - 1 → active B E g ≡ active B E f
pointing-active B E w which f s g t leaves cells l =
    active-kept B E f g (leaves.others (full_cell B E) (false_from_ne_true _ (pointing-full B E w which cells (omega arith))))
    (λ i m k. leaves.others (activity_cell B E + i) (false_from_ne_true _ (pointing-activity B E w which cells l (activity_cell B E + i) (omega arith))))

pointing-ready : (B E w : ℕ) (which f s g t : ℕ → Bool) → Leaves which f s g t → ((n : ℕ) → which n ≡ is_pointer_cell B w n) → IsReady B E w f → IsReady B E w g
pointing-ready B E w which f s g t leaves cells ready =
    let full : g (full_cell B E) ≡ false = leaves.others (full_cell B E) (false_from_ne_true _ (pointing-full B E w which cells ready.entry)) ∙ ready.full in
    record {
      entry = ready.entry;
      full = full;
      most = elim (cases_lt w (E - 1)) as (λ _. active B E g ≤ w) [
        | inl l ↦ let e = pointing-active B E w which f s g t leaves cells l in let m = ready.most in omega arith
        | inr le ↦ let m = open-within B E g full in omega arith
      ];
      entries = λ l. pointing-active B E w which f s g t leaves cells l ∙ ready.entries l;
      cleared = λ n low high. leaves.others n (false_from_ne_true _ (pointing-activity B E w which cells (omega arith) n (omega arith))) ∙ ready.cleared n low high;
    }

pub pointing-kept : (B M E w : ℕ) (bytes : List ℕ) (want which f s g t : ℕ → Bool) → IsLayout B M E → Leaves which f s g t → IsPointing B E w bytes want which f s → IsPointing B E w bytes want which g t
pointing-kept B M E w bytes want which f s g t layout leaves phase =
    let same : ((x : ℕ) → source_below B f x w ≡ source_below B g x w) =
    λ x. source-same B f g x w (pointers-left B w which f s g t leaves (pointing-apart B w which phase.cells)) in
    let bit : ℕ = pointer B want w in
    record {
      ready = pointing-ready B E w which f s g t leaves phase.cells phase.ready;
      cells = phase.cells;
      wrong = ap (λ (b : Bool). xor b (bit_of bytes bit)) (ap g (sym (same bit)) ∙ leaves.held (source_below B f bit w) phase.charged) ∙ phase.wrong;
      lower = λ x l. ap g (sym (same x)) ∙ leaves.others (source_below B f x w) (false_from_ne_true _ (apart x l)) ∙ phase.lower x l;
      charged = ap t (sym (same bit)) ∙ leaves.stuck (source_below B f bit w) phase.charged;
    }
  where
    apart : (x : ℕ) → x < pointer B want w → which (source_below B f x w) ≡ true → ⊥
    apart x l h =
        let (from, to) = pointer-cell B w which phase.cells (source_below B f x w) h in
        let low = pointer-lt B want w layout.digits in
        let e = source-no_pointer B f x w w (omega arith) from in omega arith

-- ---- switching

pub switch-early : (B E w : ℕ) → w < E - 1 → switch_cell B E w ≡ activity_cell B E + w
switch-early B E w l = cond-false (eqb w (E - 1)) (full_cell B E) (activity_cell B E + w) (ne_eqb w (E - 1) (λ e. omega arith))

pub switch-last : (B E w : ℕ) → w ≡ E - 1 → switch_cell B E w ≡ full_cell B E
switch-last B E w e = cond-true (eqb w (E - 1)) (full_cell B E) (activity_cell B E + w) (eq-eqb w (E - 1) e)

-- an entry is early or the last
pub early_or_last : (E w : ℕ) → w < E → (w < E - 1) ⊎ (w ≡ E - 1)
early_or_last E w l = elim (cases_lt w (E - 1)) as (λ _. (w < E - 1) ⊎ (w ≡ E - 1)) [ inl a ↦ inl a | inr b ↦ inr (omega arith) ]

switching-cell : (B E w n : ℕ) (which : ℕ → Bool) → ((n : ℕ) → which n ≡ eqb n (switch_cell B E w)) → which n ≡ true → n ≡ switch_cell B E w
switching-cell B E w n which cells h = eqb-true n (switch_cell B E w) (sym (cells n) ∙ h)

switching-apart : (B E w : ℕ) (which : ℕ → Bool) → ((n : ℕ) → which n ≡ eqb n (switch_cell B E w)) → w < E
    → (i n : ℕ) → i < w + 1 → pointer_cell B i ≤ n → n < replacement_cell B i → which n ≡ true → ⊥
switching-apart B E w which cells entry i n l low high h =
    let e = switching-cell B E w n which cells h in
    elim (early_or_last E w entry) as (λ _. ⊥) [
      | inl early ↦ let at = switch-early B E w early in let t = entry-order B i (E - 1) (omega arith) in omega arith
      | inr last ↦ let at = switch-last B E w last in let t = entry-order B i E (omega arith) in omega arith
    ]

pub switching-prefix : (B M E w : ℕ) (want which f s g t : ℕ → Bool) → Leaves which f s g t → IsSwitching B M E w want which f s → Prefix B M g t (w + 1)
switching-prefix B M E w want which f s g t leaves phase =
    Prefix-left B M (w + 1) which f s g t leaves (switching-apart B E w which phase.cells phase.ready.entry) phase.charged

-- the cell that is to be switched is 0
pub switch-zero : (B E w : ℕ) (f : ℕ → Bool) → IsReady B E w f → f (switch_cell B E w) ≡ false
switch-zero B E w f ready =
    elim (early_or_last E w ready.entry) as (λ _. f (switch_cell B E w) ≡ false) [
      | inl early ↦ ap f (switch-early B E w early) ∙ activity-zero B E f ready.full w (sym (ready.entries early)) early
      | inr last ↦ ap f (switch-last B E w last) ∙ ready.full
    ]

ready-same : (B E w : ℕ) (f g : ℕ → Bool) → ((n : ℕ) → g n ≡ f n) → IsReady B E w f → IsReady B E w g
ready-same B E w f g same ready =
    let e : active B E g ≡ active B E f = active-kept B E f g (same (full_cell B E)) (λ i l m. same (activity_cell B E + i)) in
    record {
      entry = ready.entry;
      full = same (full_cell B E) ∙ ready.full;
      most = let m = ready.most in omega arith;
      entries = λ l. e ∙ ready.entries l;
      cleared = λ n low high. same n ∙ ready.cleared n low high;
    }

-- where it stays 0, nothing has changed
pub switching-unset : (B M E w : ℕ) (want which f s g t : ℕ → Bool) → Leaves which f s g t → IsSwitching B M E w want which f s → g (switch_cell B E w) ≡ false → IsSwitching B M E w want which g t
switching-unset B M E w want which f s g t leaves phase off =
    record {
      ready = ready-same B E w f g same phase.ready;
      cells = phase.cells;
      one = phase.one;
      charged = switching-prefix B M E w want which f s g t leaves phase;
    }
  where
    same : (n : ℕ) → g n ≡ f n
    same n = elim (cases_Bool (which n)) as (λ _. g n ≡ f n) [
      | inl h ↦ let e = switching-cell B E w n which phase.cells h in ap g e ∙ off ∙ sym (switch-zero B E w f phase.ready) ∙ ap f (sym e)
      | inr h ↦ leaves.others n h
    ]

-- where it has become 1, one more entry is active
pub switching-set : (B M E w : ℕ) (want which f s g t : ℕ → Bool) → IsLayout B M E → Leaves which f s g t → IsSwitching B M E w want which f s → g (switch_cell B E w) ≡ true
    → (active B E g ≡ w + 1) × IsCleared B E g (w + 1)
switching-set B M E w want which f s g t layout leaves phase on =
    elim (early_or_last E w phase.ready.entry) as (λ _. (active B E g ≡ w + 1) × IsCleared B E g (w + 1)) [
      | inl early ↦ (early-active early, early-cleared early)
      | inr last ↦ (active-full B E g (ap g (sym (switch-last B E w last)) ∙ on) ∙ (let l = phase.ready.entry in omega arith), λ n low high. absurd (omega arith))
    ]
  where
    kept : (n : ℕ) → n ≢ switch_cell B E w → g n ≡ f n
    kept n ne = leaves.others n (phase.cells n ∙ ne_eqb n (switch_cell B E w) ne)

    early-cleared : w < E - 1 → IsCleared B E g (w + 1)
    early-cleared early n low high = kept n (λ e. let at = switch-early B E w early in omega arith) ∙ phase.ready.cleared n (omega arith) high

    early-active : w < E - 1 → active B E g ≡ w + 1
    early-active early =
        let at = switch-early B E w early in
        let order = entry-order B (E - 1) E (omega arith) in
        let room = activity-lt B M E w layout early in
        let full : g (full_cell B E) ≡ false = kept (full_cell B E) (λ e. omega arith) ∙ phase.ready.full in
        let count = phase.ready.entries early in
        active-is B E g (w + 1) full (omega arith)
        (λ i l. elim (cases_eq i w) as (λ _. g (activity_cell B E + i) ≡ true) [
          | inl e ↦ let p : activity_cell B E + i ≡ switch_cell B E w = omega arith in ap g p ∙ on
          | inr ne ↦ kept (activity_cell B E + i) (λ e. omega arith) ∙ activity-ones B E f phase.ready.full i (omega arith)
        ])
        (λ l. kept (activity_cell B E + (w + 1)) (λ e. omega arith) ∙ phase.ready.cleared (activity_cell B E + (w + 1)) (omega arith) (omega arith))
