-- What is kept of a line.
use Rattle.std.proofs.Common.{◌≡◌, ℕ, ◌<◌, ◌≤◌, ◌&&◌, ◌||◌, ◌⊎◌, inl, inr, Bool, true, false, List, [], ◌∷◌, ◌++◌, Option, Some, None, refl, sym, ap, ◌∙◌, cond, arith}
use Rattle.std.{specs.List.list_any, specs.Prelude.{nat_le, reverse, min}, proofs.lemmas.Bool.{le-leb, lt-leb, cases_lt}, proofs.lemmas.List.{reverse-append, reverse-reverse}}
use Rattle.masked_bytes.{specs.Masked.{joined, laid, none_given}, proofs.Truth.or_false, proofs.Turning.either_least}
use Rattle.result_rows.specs.declared.Outcome.{Outcome}
use Rattle.result_rows.specs.declared.Outcome.TheVariants as out
use Rattle.row_rules.specs.{Answers.{is_stored, stored_by}, Queueing.unstored, Rows.{accepted_of, write_of, newest, bytes_of, given_of}, declared.Row.Row}
use Rattle.check_judging.{specs.Runs.{run, held}, proofs.Covers.cover_law}
use Rattle.check_verdict.specs.{Covering.{held_by, KeptLine, sooner, soonest, comes_by, closed, CoverKeptLaw, LineStaysLaw, LineJoinsLaw}, declared.lines.Run.Run}

module _ {n : ℕ} where
  -- whether a write of the line is stored by a tick
  some_by : (t line : ℕ) (rows : List (Row n)) → list_any (λ q. write_of line q && stored_by t q.outcome) rows ≡ comes_by t (soonest line rows)
  some_by t line [] = refl
  some_by t line (q ∷ rows) = by q.outcome (write_of line q) refl (soonest line rows) (some_by t line rows)
    where
      none : (own : Bool) (found : Option ℕ) (any : Bool) → any ≡ comes_by t found → ((own && false) || any) ≡ comes_by t found
      none true found any ih = ih
      none false found any ih = ih

      by : (o : Outcome n) (own : Bool) → write_of line q ≡ own → (found : Option ℕ) → list_any (λ q. write_of line q && stored_by t q.outcome) rows ≡ comes_by t found
          → ((own && stored_by t o) || list_any (λ q. write_of line q && stored_by t q.outcome) rows) ≡ comes_by t (sooner line q o found)
      by (out.Stored v place) true is None ih =
          ap (λ b. nat_le v t || b) ih ∙ or_false (nat_le v t) ∙ ap (λ b. comes_by t (cond b (Some v) None)) (sym is)
      by (out.Stored v place) true is (Some u) ih =
          ap (λ b. nat_le v t || b) ih ∙ sym (either_least v u t) ∙ ap (λ b. comes_by t (cond b (Some (min v u)) (Some u))) (sym is)
      by (out.Stored v place) false is None ih = ih ∙ ap (λ b. comes_by t (cond b (Some v) None)) (sym is)
      by (out.Stored v place) false is (Some u) ih = ih ∙ ap (λ b. comes_by t (cond b (Some (min v u)) (Some u))) (sym is)
      by _ own is found ih = none own found (list_any (λ q. write_of line q && stored_by t q.outcome) rows) ih

pub cover_kept_law : CoverKeptLaw
cover_kept_law n now t line before after bytes unclosed runs kept le sized =
    ap (λ b. cond b (none_given n) (unstored (stored_by t) line before)) (some_by t line after)
    ∙ ap (λ given. cond (comes_by t (soonest line after)) (none_given n) given)
    (cover_law n t line before sized
    ∙ ap (λ given. joined given (held t line before)) (sym kept.open_is)
    ∙ ap (λ given. joined unclosed given) (sym (kept.held_is t le)))

pub line_stays_law : LineStaysLaw
line_stays_law n now later line r rows bytes unclosed runs kept le other = record {
  newest_is = kept.newest_is ∙ ap (λ b. cond b (laid (bytes_of r.asks) (given_of r.asks) (newest rows line)) (newest rows line)) (sym other);
  open_is =
      kept.open_is
      ∙ ap (λ b. cond b (cond (is_stored r.outcome) (none_given n) (joined (given_of r.asks) (run line rows))) (run line rows)) (sym other);
  held_is = λ t after.
      kept.held_is t (omega (arith, le, after))
      ∙ ap (λ b. cond (b && is_stored r.outcome) (cond (stored_by t r.outcome) (none_given n) (joined (joined (given_of r.asks) (run line rows)) (held t line rows))) (held t line rows)) (sym other);
}

module _ {n : ℕ} (now line : ℕ) (r : Row n) (rows : List (Row n)) (bytes : List ℕ) (unclosed : List Bool) (runs : List (Run n))
    (kept : KeptLine n now line rows bytes unclosed runs) (own : accepted_of line r ≡ true) where
  -- those that are over give nothing any more
  closing : (t : ℕ) → now ≤ t → (newer : List (Run n)) → held_by n t (closed now newer) ≡ held_by n t newer
  closing t le [] = refl
  closing t le (one ∷ newer) = by (cases_lt now one.end)
    where
      by : (now < one.end) ⊎ (one.end ≤ now) → held_by n t (cond (nat_le one.end now) [] (one ∷ newer)) ≡ held_by n t (one ∷ newer)
      by (inl a) = ap (λ b. held_by n t (cond b [] (one ∷ newer))) (lt-leb one.end now a)
      by (inr a) =
          ap (λ b. held_by n t (cond b [] (one ∷ newer))) (le-leb one.end now a)
          ∙ sym (ap (λ b. cond b (none_given n) (joined one.given (held_by n t newer))) (le-leb one.end t (omega (arith, a, le))))

  newer_bytes : laid (bytes_of r.asks) (given_of r.asks) bytes ≡ newest (r ∷ rows) line
  newer_bytes =
      ap (laid (bytes_of r.asks) (given_of r.asks)) kept.newest_is
      ∙ ap (λ b. cond b (laid (bytes_of r.asks) (given_of r.asks) (newest rows line)) (newest rows line)) (sym own)

  opened : (stored : Bool) → is_stored r.outcome ≡ stored → cond stored (none_given n) (joined (given_of r.asks) unclosed) ≡ run line (r ∷ rows)
  opened stored is =
      ap (λ given. cond stored (none_given n) (joined (given_of r.asks) given)) kept.open_is
      ∙ ap (λ b. cond b (none_given n) (joined (given_of r.asks) (run line rows))) (sym is)
      ∙ ap (λ b. cond b (cond (is_stored r.outcome) (none_given n) (joined (given_of r.asks) (run line rows))) (run line rows)) (sym own)

  holding : (t : ℕ) (stored : Bool) → is_stored r.outcome ≡ stored
      → cond stored (cond (stored_by t r.outcome) (none_given n) (joined (joined (given_of r.asks) (run line rows)) (held t line rows))) (held t line rows) ≡ held t line (r ∷ rows)
  holding t stored is =
      ap (λ b. cond b (cond (stored_by t r.outcome) (none_given n) (joined (joined (given_of r.asks) (run line rows)) (held t line rows))) (held t line rows)) (sym is)
      ∙ ap (λ b. cond (b && is_stored r.outcome) (cond (stored_by t r.outcome) (none_given n) (joined (joined (given_of r.asks) (run line rows)) (held t line rows))) (held t line rows)) (sym own)

  stored : (u place : ℕ) (one : Run n) → r.outcome ≡ out.Stored u place → one.end ≡ u → one.given ≡ joined (given_of r.asks) unclosed
      → KeptLine n now line (r ∷ rows) (laid (bytes_of r.asks) (given_of r.asks) bytes) (none_given n) (reverse (closed now (reverse runs)) ++ one ∷ [])
  stored u place one is at gives = record {
    newest_is = newer_bytes;
    open_is = opened true (ap is_stored is);
    held_is = λ t le.
        ap (held_by n t) (reverse-append (reverse (closed now (reverse runs))) (one ∷ []) ∙ ap (λ zs. one ∷ zs) (reverse-reverse (closed now (reverse runs))))
        ∙ ap (λ given. cond (nat_le one.end t) (none_given n) (joined one.given given)) (closing t le (reverse runs) ∙ kept.held_is t le)
        ∙ ap (λ given. cond (nat_le one.end t) (none_given n) (joined given (held t line rows))) (gives ∙ ap (joined (given_of r.asks)) kept.open_is)
        ∙ ap (λ b. cond b (none_given n) (joined (joined (given_of r.asks) (run line rows)) (held t line rows)))
        (ap (λ v. nat_le v t) at ∙ ap (λ o. stored_by t o) (sym is))
        ∙ holding t true (ap is_stored is);
  }

  unstored_o : (o : Outcome n) → ((u place : ℕ) → o ≡ out.Stored u place → ⊥) → is_stored o ≡ false
  unstored_o (out.Stored v place) never = absurd (never v place refl)
  unstored_o _ never = refl

  other : ((u place : ℕ) → r.outcome ≡ out.Stored u place → ⊥) → KeptLine n now line (r ∷ rows) (laid (bytes_of r.asks) (given_of r.asks) bytes) (joined (given_of r.asks) unclosed) runs
  other never = record {
    newest_is = newer_bytes;
    open_is = opened false (unstored_o r.outcome never);
    held_is = λ t le. kept.held_is t le ∙ holding t false (unstored_o r.outcome never);
  }

pub line_joins_law : LineJoinsLaw
line_joins_law n now line r rows bytes unclosed runs kept own = (
  λ u place one is at gives. stored now line r rows bytes unclosed runs kept own u place one is at gives,
  λ never. other now line r rows bytes unclosed runs kept own never,
)
