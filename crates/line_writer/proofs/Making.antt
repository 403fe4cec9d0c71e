-- Each phase begins with what its programming wants.
use Rattle.std.proofs.Common.{◌≡◌, ℕ, ◌+◌, ◌-◌, ◌*◌, ◌<◌, Bool, true, false, cond, List, refl, sym, ap, ◌∙◌, inl, inr, arith, eqb}
use Rattle.std.proofs.lemmas.Bool.{cases_eq, and_from, eq-eqb, ne_eqb, cond-true, cond-false}
use Rattle.cell_rows.specs.{Rows.{bit_of, cell, xor}, declared.row.Cells.Cells}
use Rattle.program_verify.specs.{Programming.IsGoing, declared.prog.Prog.Prog}
use Rattle.ecp_line.{specs.Layout.{source_below, pointer, is_pointer_cell, switch_cell, Prefix, IsLayout}, proofs.Places.{full-lt, entry-order, activity-lt}}
use Rattle.line_writer.{specs.Phases.{IsReady, IsPointing, IsSwitching}, proofs.Keeping.{switch-zero, switch-early, switch-last, early_or_last}}

-- a programming that was made of these parts
made : {B M : ℕ} → Cells B M → Cells B M → Cells B M → Prog B M
made seen want which = record { seen = seen; want = want; which = which; rounds = 0 }

pub pointing-made : (B E w bit : ℕ) (bytes : List ℕ) (want which f stuck : ℕ → Bool) → IsReady B E w f
    → pointer B want w ≡ bit → ((n : ℕ) → which n ≡ is_pointer_cell B w n) → xor (f (source_below B f bit w)) (bit_of bytes bit) ≡ true
    → ((x : ℕ) → x < bit → f (source_below B f x w) ≡ bit_of bytes x) → stuck (source_below B f bit w) ≡ true → IsPointing B E w bytes want which f stuck
pointing-made B E w bit bytes want which f stuck ready at mask wrong lower charged =
    record {
      ready = ready;
      cells = mask;
      wrong = ap (λ (x : ℕ). xor (f (source_below B f x w)) (bit_of bytes x)) at ∙ wrong;
      lower = λ x l. lower x (omega arith);
      charged = ap (λ (x : ℕ). stuck (source_below B f x w)) at ∙ charged;
    }

pub switch-lt : (B M E w : ℕ) → IsLayout B M E → w < E → switch_cell B E w < 8 * (B + M)
switch-lt B M E w layout entry =
    let room = full-lt B M E layout in
    elim (early_or_last E w entry) as (λ _. switch_cell B E w < 8 * (B + M)) [
      | inl early ↦
          let at = switch-early B E w early in
          let low = activity-lt B M E w layout early in
          let order = entry-order B (E - 1) E (omega arith) in omega arith
      | inr last ↦ let at = switch-last B E w last in omega arith
    ]

pub switching-made : {B M : ℕ} (E w c : ℕ) (held seen want which : Cells B M) (stuck zero : ℕ → Bool) → IsLayout B M E → held ≡ seen → c ≡ switch_cell B E w
    → ((n : ℕ) → cell want n ≡ cond (eqb n c) true (cell seen n)) → ((n : ℕ) → cell which n ≡ cond (eqb n c) true (zero n)) → ((n : ℕ) → zero n ≡ false)
    → IsReady B E w (cell held) → Prefix B M (cell held) stuck (w + 1)
    → IsSwitching B M E w (cell want) (cell which) (cell held) stuck × IsGoing {B = B} {M = M} (record { seen = seen; want = want; which = which; rounds = 0 })
switching-made {B} {M} E w c held seen want which stuck zero layout e at set_want set_which none ready charged = (
  record { ready = ready; cells = mask; one = on; charged = charged },
  record {
    rounds = omega arith;
    wrong = (
      switch_cell B E w,
      switch-lt B M E w layout ready.entry,
      and_from (cell which (switch_cell B E w)) _ (mask (switch_cell B E w) ∙ eq-eqb _ _ refl) differs,
    );
  },
)
  where
    mask : (n : ℕ) → cell which n ≡ eqb n (switch_cell B E w)
    mask n = elim (cases_eq n c) as (λ _. cell which n ≡ eqb n (switch_cell B E w)) [
      | inl same ↦ set_which n ∙ cond-true (eqb n c) true (zero n) (eq-eqb n c same) ∙ sym (eq-eqb n (switch_cell B E w) (same ∙ at))
      | inr ne ↦ set_which n ∙ cond-false (eqb n c) true (zero n) (ne_eqb n c ne) ∙ none n ∙ sym (ne_eqb n (switch_cell B E w) (λ q. ne (q ∙ sym at)))
    ]

    on : cell want (switch_cell B E w) ≡ true
    on = set_want (switch_cell B E w) ∙ cond-true (eqb (switch_cell B E w) c) true (cell seen (switch_cell B E w)) (eq-eqb _ _ (sym at))

    off : cell seen (switch_cell B E w) ≡ false
    off = ap (λ (h : Cells B M). cell h (switch_cell B E w)) (sym e) ∙ switch-zero B E w (cell held) ready

    differs : xor (cell seen (switch_cell B E w)) (cell want (switch_cell B E w)) ≡ true
    differs = ap (λ (b : Bool). xor b (cell want (switch_cell B E w))) off ∙ on
