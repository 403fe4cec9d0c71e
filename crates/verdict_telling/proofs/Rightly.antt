-- What is told to be right for a row is.
use Rattle.std.proofs.Common.{◌≡◌, ◌≢◌, ℕ, ◌&&◌, ◌||◌, Bool, true, false, List, [], ◌∷◌, Option, Some, None, refl, sym, ap, ◌∙◌}
use Rattle.std.{specs.List.list_any, specs.Prelude.reverse, proofs.lemmas.Bool.eq-eqb}
use Rattle.masked_bytes.proofs.Truth.{and_second}
use Rattle.result_rows.specs.declared.Outcome.{Outcome}
use Rattle.result_rows.specs.declared.Outcome.TheVariants as out
use Rattle.row_rules.specs.{Serving.same_bytes, declared.Row.Row, declared.Rules.Rules}
use Rattle.check_verdict.specs.{Judged.{a_cut, a_read, a_write, beside}, Verdicts.bank_in, declared.Rule.Rule}
use Rattle.check_telling.specs.{Grounds.TellsRead, Right.RightReadLaw, RightWrites.{RightCutLaw, RightWriteLaw}, WriteGrounds.TellsWrite, declared.facts.RowAt.RowAt}
use Rattle.check_telling.specs.{declared.grounds.Grounds.Grounds, declared.writes.WriteGrounds.WriteGrounds}
use Rattle.clause_telling.specs.{Rooms.TellsRoom, declared.room.Crowd.Crowd}
use Rattle.verdict_telling.specs.Explained.{AreRight, MayTell}
use Rattle.verdict_telling.specs.Offers.{Offer, Busy, Forwarded, Lost, can_forward, can_read, can_refuse, last_tick, line_if, lines_of, lost_line, offers, read_line, read_lines}
use Rattle.verdict_telling.proofs.{Banks.rising_of_bank, Lines.some_free, RightReads.read_exact, RightWrites.{cut_exact, write_exact, write_lines_tell}}
use Rattle.verdict_telling.specs.declared.row.Finds.TheVariants as finds

same_self : (bytes : List ℕ) → same_bytes bytes bytes ≡ true
same_self [] = refl
same_self (x ∷ bytes) = ap (λ b. b && same_bytes bytes bytes) (eq-eqb x x refl) ∙ same_self bytes

module _ {n : ℕ} (past later : List (Row n)) where
  -- one of these lines offers some outcome
  abbrev Offered : List Offer → Type 0
  Offered lines = (o : Outcome n) × (list_any (offers past later o) lines ≡ true)

  some_if : (stands : Bool) (x : Offer) (rest : List Offer) → (stands ≡ true → (o : Outcome n) × (offers past later o x ≡ true)) → (rest ≢ [] → Offered rest)
      → line_if stands x rest ≢ [] → Offered (line_if stands x rest)
  some_if true x rest own others some = let one = own refl in (one.0, ap (λ b. b || list_any (offers past later one.0) rest) one.1)
  some_if false x rest own others some = others some

  some_lost : (g : Grounds n) (cut : Option RowAt) (rest : List Offer) → (rest ≢ [] → Offered rest) → lost_line g cut rest ≢ [] → Offered (lost_line g cut rest)
  some_lost g None rest others some = others some
  some_lost g (Some cut) rest others some = some_if _ (Lost cut.tick) rest (λ stands. (out.Lost cut.tick, eq-eqb cut.tick cut.tick refl)) others some

  -- a line of a read offers one where it stands
  some_read : (g : Grounds n) (tick : ℕ) → read_lines g tick ≢ [] → Offered (read_lines g tick)
  some_read g tick some =
      let forwarded = line_if (can_forward g) (Forwarded tick g.newest.bytes) [] in
      let coming = line_if (can_refuse g) (Busy tick) forwarded in
      let to = last_tick g.by g.cut in
      some_if (can_read g) (read_line g) (lost_line g g.cut coming)
      (λ stands. let free = some_free g.from to g.taken.items (and_second _ _ stands) in (
        out.Read free.0 0 g.newest.bytes,
        ap (λ b. b && same_bytes g.newest.bytes g.newest.bytes) free.1 ∙ same_self g.newest.bytes,
      ))
      (some_lost g g.cut coming (some_if (can_refuse g) (Busy tick) forwarded (λ stands. (out.Busy tick, eq-eqb tick tick refl))
      (some_if (can_forward g) (Forwarded tick g.newest.bytes) []
      (λ stands. (out.Forwarded tick g.newest.bytes, ap (λ b. b && same_bytes g.newest.bytes g.newest.bytes) (eq-eqb tick tick refl) ∙ same_self g.newest.bytes))
      (λ none. absurd (none refl)))))
      some

module _ {n : ℕ} (rules : Rules) (banks : List ℕ) (before after : List (Row n)) (tick : ℕ) (own : Outcome n) (rule : Rule) where
  pub read_right : RightReadLaw → (line : ℕ) (g : Grounds n) (crowd : Option (Crowd n)) → MayTell rules banks before (a_read tick line own) after rule
      → TellsRoom rules banks tick (reverse before) crowd → TellsRead rules banks tick line before after g
      → AreRight rules banks before (a_read tick line own) after (lines_of rules tick (finds.Read g) crowd)
  read_right law line g crowd may room tells =
      let is = read_exact rules banks before after tick line own rule g law crowd may room tells in
      record { exact = is; some = λ some. let one = by crowd some in (one.0, is one.0 ∙ one.1) }
    where
      by : (crowd : Option (Crowd n)) → lines_of rules tick (finds.Read g) crowd ≢ []
          → Offered (beside banks line (reverse before)) (beside banks line after) (lines_of rules tick (finds.Read g) crowd)
      by None some = some_read (beside banks line (reverse before)) (beside banks line after) g tick some
      by (Some crowd) some = absurd (some refl)

  pub write_right : RightWriteLaw → (line : ℕ) (bytes : List ℕ) (given : List Bool) (w : WriteGrounds n) (crowd : Option (Crowd n))
      → MayTell rules banks before (a_write tick line bytes given own) after rule → TellsRoom rules banks tick (reverse before) crowd
      → TellsWrite rules banks tick line before after w
      → AreRight rules banks before (a_write tick line bytes given own) after (lines_of rules tick (finds.Write w) crowd)
  write_right law line bytes given w crowd may room tells =
      let is = write_exact rules banks before after tick own rule law line bytes given w crowd may room tells in
      record { exact = is; some = λ some. (out.Worn tick, is (out.Worn tick) ∙ by crowd some) }
    where
      by : (crowd : Option (Crowd n)) → lines_of rules tick (finds.Write w) crowd ≢ []
          → list_any (offers (beside banks line (reverse before)) (beside banks line after) (out.Worn tick)) (lines_of rules tick (finds.Write w) crowd) ≡ true
      by None some =
          sym (write_lines_tell rules banks before after tick line w tells (rising_of_bank (bank_in banks) (bank_in banks line) tick after may.rises) bytes given (out.Worn tick))
          ∙ eq-eqb tick tick refl
      by (Some crowd) some = absurd (some refl)

  pub cut_right : RightCutLaw → (crowd : Option (Crowd n)) → MayTell rules banks before (a_cut tick own) after rule → TellsRoom rules banks tick (reverse before) crowd
      → AreRight rules banks before (a_cut tick own) after (lines_of rules tick finds.Cut crowd)
  cut_right law crowd may room =
      let is = cut_exact rules banks before after tick own rule law crowd may room in
      record { exact = is; some = λ some. (out.Cut tick, is (out.Cut tick) ∙ by crowd some) }
    where
      by : (crowd : Option (Crowd n)) → lines_of rules tick finds.Cut crowd ≢ [] → list_any (offers {n = n} [] [] (out.Cut tick)) (lines_of rules tick finds.Cut crowd) ≡ true
      by None some = ap (λ b. b || false) (eq-eqb tick tick refl)
      by (Some crowd) some = absurd (some refl)
