-- What a sink got and what a text holds: how both together grow, and what is written in the end.
use Rattle.std.proofs.Common.{◌≡◌, ℕ, ◌+◌, List, [], ◌∷◌, ◌++◌, length, Option, refl, sym, ap, subst, ◌∙◌, arith, append_assoc}
use Rattle.std.{specs.Io.KnownBytes.Appends, proofs.lemmas.List.append-nil}
use Rattle.pcm_io.specs.{Giving.AppendsPrefix, Reserved.{Reserved, appended, reserved}}
use Rattle.pcm_io.proofs.ByteLemmas.{Appends-Appends, Appends-nothing, Appends-AppendsPrefix, AppendsPrefix-longer}
use Rattle.run_text.{specs.Gathering.Printed, specs.WearText.{wear_header_text, wear_row_text, wear_rows_text, wear_text}, proofs.WearLemmas.wear_rows_text-append}
use Rattle.bank_shape.specs.declared.Role.{Role}

-- an empty text that got these bytes
pub printed-first : (a : Option (List ℕ)) (bytes : List ℕ) → Printed a a (appended (reserved 65536) bytes) bytes
printed-first a bytes = record { gone = []; sent = Appends-nothing a; is = refl; limit = refl }

-- more bytes behind
pub printed-more : (a b : Option (List ℕ)) (text : Reserved) (whole more : List ℕ) → Printed a b text whole → Printed a b (appended text more) (whole ++ more)
printed-more a b text whole more h = record {
  gone = h.gone;
  sent = h.sent;
  is = sym (append_assoc h.gone text.bytes more) ∙ ap (λ (xs : List ℕ). xs ++ more) h.is;
  limit = h.limit;
}

-- the same bytes, all of which went from the text to the sink
pub printed-cleared : (a b c : Option (List ℕ)) (old new : Reserved) (bytes whole : List ℕ) → bytes ≡ old.bytes → new ≡ reserved old.limit
    → Appends b c bytes → Printed a b old whole → Printed a c new whole
printed-cleared a b c old new bytes whole same cleared sent h =
    rw cleared (record {
      gone = h.gone ++ bytes;
      sent = Appends-Appends a b c h.gone bytes h.sent sent;
      is = append-nil (h.gone ++ bytes) ∙ ap (λ (xs : List ℕ). h.gone ++ xs) same ∙ h.is;
      limit = h.limit;
    })

-- first bytes of it are, once first bytes of the text are
pub printed-part : (a b c : Option (List ℕ)) (text : Reserved) (whole : List ℕ) → AppendsPrefix b c text.bytes → Printed a b text whole → AppendsPrefix a c whole
printed-part a b c text whole part h = rw (← h.is) (Appends-AppendsPrefix a b c h.gone text.bytes h.sent part)

-- the same bytes, told otherwise
pub printed-same : (a b : Option (List ℕ)) (text : Reserved) (whole other : List ℕ) → whole ≡ other → Printed a b text whole → Printed a b text other
printed-same a b text whole other is h = subst (λ (xs : List ℕ). Printed a b text xs) is h

pub part-same : (a b : Option (List ℕ)) (whole other : List ℕ) → whole ≡ other → AppendsPrefix a b whole → AppendsPrefix a b other
part-same a b whole other is part = subst (λ (xs : List ℕ). AppendsPrefix a b xs) is part

-- ---- the wear report

pub wear_text-append : (first second : List (ℕ × ℕ × Role)) → wear_text (first ++ second) ≡ wear_text first ++ wear_rows_text (length first) second
wear_text-append first second =
    let zero_more : 0 + length first ≡ length first = omega arith in
    let rows : wear_rows_text 0 (first ++ second) ≡ wear_rows_text 0 first ++ wear_rows_text (length first) second = rw zero_more at (wear_rows_text-append 0 first second) in
    ap (λ (xs : List ℕ). wear_header_text ++ xs) rows ∙ sym (append_assoc wear_header_text (wear_rows_text 0 first) (wear_rows_text (length first) second))

-- one row more
pub wear_text-more : (rows : List (ℕ × ℕ × Role)) (array_line bank pulses : ℕ) (role : Role) → length rows ≡ array_line
    → wear_text rows ++ wear_row_text array_line bank pulses role ≡ wear_text (rows ++ (bank, pulses, role) ∷ [])
wear_text-more rows array_line bank pulses role count =
    ap (λ n. wear_text rows ++ wear_row_text n bank pulses role) (sym count)
    ∙ ap (λ (xs : List ℕ). wear_text rows ++ xs) (sym (append-nil (wear_row_text (length rows) bank pulses role)))
    ∙ sym (wear_text-append rows ((bank, pulses, role) ∷ []))

pub printed-wear_row : (a b : Option (List ℕ)) (old new : Reserved) (rows : List (ℕ × ℕ × Role)) (array_line bank pulses : ℕ) (role : Role)
    → new ≡ appended old (wear_row_text array_line bank pulses role) → length rows ≡ array_line → Printed a b old (wear_text rows)
    → Printed a b new (wear_text (rows ++ (bank, pulses, role) ∷ []))
printed-wear_row a b old new rows array_line bank pulses role is count h =
    subst (λ (t : Reserved). Printed a b t (wear_text (rows ++ (bank, pulses, role) ∷ []))) (sym is)
    (subst (λ (xs : List ℕ). Printed a b (appended old (wear_row_text array_line bank pulses role)) xs) (wear_text-more rows array_line bank pulses role count)
    (printed-more a b old (wear_text rows) (wear_row_text array_line bank pulses role) h))

-- first bytes of the rows so far are first bytes of the report, whatever rows come behind them
pub wear_text-part : (a b : Option (List ℕ)) (rows later : List (ℕ × ℕ × Role)) → AppendsPrefix a b (wear_text rows) → AppendsPrefix a b (wear_text (rows ++ later))
wear_text-part a b rows later part =
    subst (λ (xs : List ℕ). AppendsPrefix a b xs) (sym (wear_text-append rows later)) (AppendsPrefix-longer a b (wear_text rows) (wear_rows_text (length rows) later) part)
