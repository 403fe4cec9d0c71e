-- Entries laid one by one.
use Rattle.std.proofs.Common.{◌≡◌, ℕ, zero, suc, ◌<◌, true, false, ◌==◌, List, [], ◌∷◌, ◌++◌, length, take, get_or, sym, ap, ◌∙◌, arith}
use Rattle.std.{specs.List.AllByRecursion, specs.Prelude.{map, replicate}, proofs.lemmas.Bool.eqb-true, proofs.lemmas.List.map_push}
use Rattle.masked_bytes.{specs.Entries.{layer_of, AllMasked}, specs.Masked.{laid, none_given, IsMasked}, proofs.Layering.{laid-laid, laid-none_given}}
use Rattle.masked_bytes.proofs.Queueing.{IsLayer-layer_of, layer_of-append, layer_of-append_other}
use Rattle.pcm_image.{specs.Saved.{Head, IsSavedEntry, IsSavedBank, SavedBank}, specs.Standing.entry_of, specs.declared.EntryImage.EntryImage, proofs.Fronts.all_to}

pub over_none : (n : ℕ) (under : List ℕ) → under ≡ laid (replicate n 0) (none_given n) under
over_none n under = sym (laid-none_given n (replicate n 0) under)

module _ {n : ℕ} where
  abbrev pub over : List (EntryImage n) → ℕ → List ℕ → List ℕ
  over es line under = laid (layer_of (map entry_of es) line).bytes (layer_of (map entry_of es) line).given under

  pub over_other : (es : List (EntryImage n)) (e : EntryImage n) (line : ℕ) (under : List ℕ) → (e.line == line) ≡ false → over (es ++ e ∷ []) line under ≡ over es line under
  over_other es e line under h =
      ap (λ xs. laid (layer_of xs line).bytes (layer_of xs line).given under) (map_push entry_of es e)
      ∙ ap (λ l. laid l.bytes l.given under) (layer_of-append_other (map entry_of es) (entry_of e) line h)

  pub over_more : (es : List (EntryImage n)) (e : EntryImage n) (line : ℕ) (under : List ℕ) → AllMasked (map entry_of es) → IsMasked n e.bytes e.given → length under ≡ n → (e.line == line) ≡ true
      → over (es ++ e ∷ []) line under ≡ laid e.bytes e.given (over es line under)
  over_more es e line under m k len h =
      let is = IsLayer-layer_of (map entry_of es) line m in
      ap (λ xs. laid (layer_of xs line).bytes (layer_of xs line).given under) (map_push entry_of es e)
      ∙ ap (λ l. laid l.bytes l.given under) (layer_of-append (map entry_of es) (entry_of e) line m k (eqb-true e.line line h))
      ∙ laid-laid e.bytes e.given (layer_of (map entry_of es) line).bytes (layer_of (map entry_of es) line).given under (k.given_len ∙ sym k.bytes_len) (is.bytes_len ∙ sym k.bytes_len) (is.given_len ∙ sym k.bytes_len) (len ∙ sym k.bytes_len)

  pub masked_take : (es : List (EntryImage n)) (i : ℕ) → AllMasked (map entry_of es) → AllMasked (map entry_of (take i es))
  masked_take [] zero m = tt
  masked_take [] (suc i) m = tt
  masked_take (e ∷ es) zero m = tt
  masked_take (e ∷ es) (suc i) m = (m.0, masked_take es i m.1)

  pub masked_at : (es : List (EntryImage n)) (i : ℕ) (d : EntryImage n) → i < length es → AllMasked (map entry_of es) → IsMasked n (get_or es i d).bytes (get_or es i d).given
  masked_at [] i d lt m = absurd (omega arith)
  masked_at (e ∷ es) zero d lt m = m.0
  masked_at (e ∷ es) (suc i) d lt m = masked_at es i d (omega (arith, lt)) m.1

  all_masked : (h : Head) (es : List (EntryImage n)) → AllByRecursion (IsSavedEntry h) es → AllMasked (map entry_of es)
  all_masked h [] k = tt
  all_masked h (e ∷ es) k = (k.0.masked, all_masked h es k.1)

  -- the entries of a saved bank can be laid
  pub bank_masked : (h : Head) (b : SavedBank n) → IsSavedBank h b → AllMasked (map entry_of b.entries)
  bank_masked h b k = all_masked h b.entries (all_to (IsSavedEntry h) b.entries k.entries)
