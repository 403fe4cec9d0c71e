-- What the queue gives of a line, laid over what its array line is read as, is its newest; and that is what its writes that were not stored
-- give, but for a head that gives every byte, so that the rest is in the array.
use Rattle.std.proofs.Common.{◌≡◌, ℕ, ◌==◌, ◌||◌, ◌⊎◌, inl, inr, Bool, true, false, List, [], ◌∷◌, length, map, refl, sym, ap, ◌∙◌, subst, arith, cond, eqb, eqb-true}
use Rattle.std.{specs.Prelude.replicate, proofs.lemmas.Bool.{or_left, or_right}}
use Rattle.result_rows.specs.declared.Outcome.{Outcome}
use Rattle.result_rows.specs.declared.Outcome.TheVariants as out
use Rattle.masked_bytes.specs.{Entries.{AllMasked, Layer, layer_by, layer_of, stacked}, Masked.{laid, gives_all}, declared.entry.Entry.Entry}
use Rattle.masked_bytes.proofs.{Layering.{laid-laid, laid-none_given, laid-over, length-laid}, Queueing.{IsLayer, IsLayer-layer_of}}
use Rattle.row_rules.specs.{Answers.is_stored, Queueing.unstored, Serving.same_bytes}
use Rattle.row_rules.specs.Rows as rows
use Rattle.bank_shape.specs.{declared.BankShape.BankShape, declared.pace.Pace.Pace}
use Rattle.power_recovery.specs.Kept.{array_line}
use Rattle.bank_model.specs.{History.{queue, moved_in}, Lawful.Lawful, Sensing.most_steps, Timing.{TimedEvent, core, last_tick}}
use Rattle.bank_laws.{specs.Laws.IsSized, specs.Outcomes.{outcome_of, ended, table_of}, specs.Pairs.{has_line, ArePaired}, proofs.Entries.either}
use Rattle.bank_laws.proofs.{Given.{given_of, given-layer, given-alone, given-other}, Pairs.{AllLong, KeepsPairs, keeps_pairs}, Serves.{same_bytes-same, newest_same}}
use Rattle.bank_laws.proofs.{Settling.opens, Waiting.may_all}
use Rattle.queue_laws.proofs.{Covering.is_covered, Covers.unstored_by, Floors.{since, floor_of}, Showing.Front}
use Rattle.ecp_line.{specs.ArrayLines.decoded, proofs.Bytes.length-decode}
use Rattle.end_laws.{specs.EndLaws.{KeptLaw, StandsLaw, StoredBytesLaw, has_whole_head, queue_entry}, proofs.Leaving.agreeing}
use Rattle.right_runs.specs.{Ends.place_by_table, Queued.laid_over}

module _ {n : ℕ} where
  -- what a queue gives of a line is the layer of its entries
  laid-entries : (es : List (Entry n)) (line : ℕ) (held : List ℕ) → AllMasked es → length held ≡ n
      → laid_over (map queue_entry es) line held ≡ laid (layer_of es line).bytes (layer_of es line).given held
  laid-entries [] line held masked long = sym (laid-none_given n (replicate n 0) held)
  laid-entries (e ∷ es) line held masked long = by (e.line == line) (laid-entries es line)
    where
      over : Layer
      over = layer_of es line

      is-layer : IsLayer n over
      is-layer = IsLayer-layer_of es line masked.1

      by : (b : Bool) → ((under : List ℕ) → AllMasked es → length under ≡ n → laid_over (map queue_entry es) line under ≡ laid over.bytes over.given under)
          → laid_over (map queue_entry es) line (cond b (laid e.bytes e.given held) held)
          ≡ laid (cond b (stacked over (layer_by e)) over).bytes (cond b (stacked over (layer_by e)) over).given held
      by true rest =
          rest (laid e.bytes e.given held) masked.1 (length-laid e.bytes e.given held ∙ long)
          ∙ sym (laid-laid over.bytes over.given e.bytes e.given held (omega (arith, is-layer.bytes_len, is-layer.given_len))
          (omega (arith, is-layer.bytes_len, masked.0.bytes_len)) (omega (arith, is-layer.bytes_len, masked.0.given_len)) (omega (arith, is-layer.bytes_len, long)))
      by false rest = rest held masked.1 long

  -- the entries of a line that isn't the head's, or whose head lacks a byte, give what the writes from the floor on give
  given-front : (s : ℕ → List Bool) (floor line : ℕ) (es : List (Entry n)) → AllLong es → ArePaired es → Front s floor line es → has_whole_head es line ≡ false → given_of es line ≡ s floor
  given-front s floor line [] long paired f free = sym f
  given-front s floor line (e ∷ es) long paired f free = by (eqb e.line line) refl
    where
      lacks : (b : Bool) → gives_all e.given ≡ b → (e.line == line) ≡ true → cond b (e.line == line) false ≡ false → gives_all e.given ≡ false
      lacks true is own free = absurd (cc)
      lacks false is own free = is

      head : (e.line == line) ≡ true → gives_all e.given ≡ false → (e.given ≡ s floor) ⊎ (gives_all e.given ≡ true) → given_of (e ∷ es) line ≡ s floor
      head own few (inr full) = absurd (cc)
      head own few (inl is) =
          let alone : has_line es e.line ≡ false = either (has_line es e.line) (λ there. absurd (cc (paired.1 there, few))) (λ none. none) in
          given-alone e es line long own (subst (λ k. has_line es k ≡ false) (eqb-true e.line line own) alone) ∙ is

      by : (b : Bool) → eqb e.line line ≡ b → given_of (e ∷ es) line ≡ s floor
      by true own = head own (lacks (gives_all e.given) refl own free) (f.1 own)
      by false other = given-other e es line other ∙ f.0 other

  ended-stored : (tick : ℕ) (o : Outcome n) → is_stored (ended tick o) ≡ is_stored o
  ended-stored tick out.Unset = refl
  ended-stored tick _ = refl

module _ {n m : ℕ} (shape : BankShape) (pace : Pace) (e : ℕ) (all : List (TimedEvent n m)) (sized : IsSized shape pace) (l : Lawful shape pace e all) where
  -- which bytes of a line the rows show as not stored
  unstored-since : (line : ℕ) → unstored is_stored line (table_of shape all) ≡ since (core all) line (floor_of (outcome_of shape all) (core all) line)
  unstored-since line =
      unstored_by shape pace e all [] all (last_tick all) sized.read sized.iter l refl (omega arith) tt is_stored (λ row tick. ended-stored tick (outcome_of shape all row)) line [] all refl

  -- the queue gives those, but of the line of a head that gives every byte
  pub given-unstored : (line : ℕ) → has_whole_head (queue shape (core all)) line ≡ false → (layer_of (queue shape (core all)) line).given ≡ unstored is_stored line (table_of shape all)
  given-unstored line free =
      let pairs : KeepsPairs shape (core all) = keeps_pairs shape (most_steps e) (core all) (may_all shape pace e all l) in
      given-layer (queue shape (core all)) line
      ∙ given-front (λ f. since (core all) line f) (floor_of (outcome_of shape all) (core all) line) line (queue shape (core all)) pairs.long pairs.paired
      ((is_covered shape pace e all sized.read sized.iter l).front line) free
      ∙ sym (unstored-since line)

-- where the given bytes laid over a line's make the newest, so do those of the newest
kept_line : (new bytes held : List ℕ) (given free : List Bool) → laid bytes given held ≡ new → given ≡ free → laid new free held ≡ new
kept_line new bytes held given free is same =
    ap (λ g. laid new g held) (sym same) ∙ ap (λ k. laid k given held) (sym is) ∙ laid-over bytes given held ∙ is

pub stands_law : StandsLaw
stands_law n m e pace xs bank array line l holds exists =
    subst (λ at. laid (layer_of bank.kept.entries line).bytes (layer_of bank.kept.entries line).given (decoded e array at) ≡ rows.newest (table_of bank.kept.shape xs) line)
    (ap (λ slot. array_line bank.kept slot) ((agreeing (core xs) bank array holds).slots line exists))
    (holds.newest line exists ∙ sym (newest_same bank.kept.shape pace e xs [] xs line l (opens bank.kept.shape pace e xs l) refl))

pub kept_law : KeptLaw
kept_law n m e pace xs bank array line l holds exists =
    let at = place_by_table bank.kept.shape (moved_in bank.kept.shape.lines (core xs)) (array_line bank.kept) line in
    same_bytes-same _ _ (laid-entries bank.kept.entries line (decoded e array at) holds.kept.masked (length-decode e (array.line at).held)
    ∙ stands_law n m e pace xs bank array line l holds exists)

pub stored_bytes_law : StoredBytesLaw
stored_bytes_law n m e pace xs bank array line sized l holds exists = by (has_whole_head bank.kept.entries line) refl
  where
    at : ℕ
    at = place_by_table bank.kept.shape (moved_in bank.kept.shape.lines (core xs)) (array_line bank.kept) line

    new : List ℕ
    new = rows.newest (table_of bank.kept.shape xs) line

    free : List Bool
    free = unstored is_stored line (table_of bank.kept.shape xs)

    given : has_whole_head bank.kept.entries line ≡ false → (layer_of bank.kept.entries line).given ≡ free
    given none =
        ap (λ (es : List (Entry n)). (layer_of es line).given) holds.entries
        ∙ given-unstored bank.kept.shape pace e xs sized l line (subst (λ (es : List (Entry n)). has_whole_head es line ≡ false) holds.entries none)

    there : has_whole_head bank.kept.entries line ≡ false → same_bytes (laid new free (decoded e array at)) new ≡ true
    there none =
        same_bytes-same _ _ (kept_line new (layer_of bank.kept.entries line).bytes (decoded e array at)
        (layer_of bank.kept.entries line).given free (stands_law n m e pace xs bank array line l holds exists) (given none))

    by : (b : Bool) → has_whole_head bank.kept.entries line ≡ b → (has_whole_head bank.kept.entries line || same_bytes (laid new free (decoded e array at)) new) ≡ true
    by true is = or_left _ _ is
    by false none = or_right _ _ (there none)
