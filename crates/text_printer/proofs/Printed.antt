-- How printed pieces follow one another.
use Rattle.std.proofs.Common.{◌≡◌, inl, inr, arith, Bool, true, false, ℕ, ◌+◌, ◌<◌, ◌≤◌, List, [], ◌∷◌, ◌++◌, length, get_or, take, Option, refl, sym, ap, subst, ◌∙◌, append_assoc, true≢false}
use Rattle.std.{specs.Io.KnownBytes.Appends, specs.List.flat_map, specs.Prelude.Err, proofs.lemmas.Bool.cases_Bool, proofs.lemmas.Grind.flat_map-append}
use Rattle.std.proofs.lemmas.List.{append-nil, take_all, take_more}
use Rattle.pcm_io.specs.{Faults.Rose, Giving.AppendsPrefix, Reserved.{appended, reserved}}
use Rattle.pcm_io.proofs.ByteLemmas.{Appends-Appends, Appends-AppendsPrefix, AppendsPrefix-longer}
use Rattle.text_printer.specs.{Printing.{Ends, Holds, Prints, Sends}, declared.printer.Printer.Printer}

module _ {K : Type 0} (written : K → Option (List ℕ)) (faults : K → ℕ) where
  -- the same bytes, told otherwise
  pub prints-same : (a b : Printer K) (p q : List ℕ) → p ≡ q → Prints written faults a b p → Prints written faults a b q
  prints-same a b p q is prints = subst (λ x. Prints written faults a b x) is prints

  -- nothing more
  pub prints-none : (a : Printer K) → Prints written faults a a []
  prints-none a = record {
    text = refl;
    out = refl;
    limit = refl;
    more = λ before since whole had. subst (λ x. Holds written faults before since a x) (sym (append-nil whole)) had;
  }

  pub prints-then : (a b c : Printer K) (p q : List ℕ) → Prints written faults a b p → Prints written faults b c q → Prints written faults a c (p ++ q)
  prints-then a b c p q first second = record {
    text = second.text ∙ first.text;
    out = second.out ∙ first.out;
    limit = second.limit ∙ first.limit;
    more = λ before since whole had.
        subst (λ x. Holds written faults before since c x) (append_assoc whole p q) (second.more before since (whole ++ p) (first.more before since whole had));
  }

  -- a piece that is put into the text
  pub prints-put : (a b c : Printer K) (piece : List ℕ) → Prints written faults a b [] → c.text.ghost_name ≡ b.text.ghost_name → c.out ≡ b.out → c.failed ≡ b.failed
      → c.text.now ≡ appended b.text.now piece → Prints written faults a c piece
  prints-put a b c piece made name out failed put = prints-then a b c [] piece made (record {
    text = name;
    out = ap (λ o. o.ghost_name) out;
    limit = ap (λ t. t.limit) put;
    more = λ before since whole had. record {
      sent = λ none.
          let h = had.sent (sym failed ∙ none) in
          (h.0, rw out h.1, ap (λ t. h.0 ++ t.bytes) put ∙ sym (append_assoc h.0 b.text.now.bytes piece) ∙ ap (λ x. x ++ piece) h.2);
      part = λ some. AppendsPrefix-longer before (written c.out.now) whole piece (rw out (had.part (sym failed ∙ some)));
      fault = λ some. rw out (had.fault (sym failed ∙ some));
      never_falls = rw out had.never_falls;
    };
  })

  -- after a fault whatever would still come
  pub prints-stopped : (a b : Printer K) (p q : List ℕ) → b.failed ≡ true → Prints written faults a b p → Prints written faults a b (p ++ q)
  prints-stopped a b p q failed had = record {
    text = had.text;
    out = had.out;
    limit = had.limit;
    more = λ before since whole h.
        let now = had.more before since whole h in
        subst (λ x. Holds written faults before since b x) (append_assoc whole p q) (record {
          sent = λ none. absurd (true≢false (sym failed ∙ none));
          part = λ some. AppendsPrefix-longer before (written b.out.now) (whole ++ p) q (now.part some);
          fault = now.fault;
          never_falls = now.never_falls;
        });
  }

  -- what a sink has once the text went to it: all that was printed, or first bytes of it
  module _ (before : Option (List ℕ)) (since : ℕ) (a : Printer K) (whole : List ℕ) (had : Holds written faults before since a whole) (fails : Bool) (out : K)
      (sends : Sends written faults a.failed a.out.now a.text.now.bytes fails out) where
    pub all-sent : fails ≡ false → Appends before (written out) whole
    all-sent none =
        let h = had.sent (sends.first none) in
        subst (λ x. Appends before (written out) x) h.2 (Appends-Appends before (written a.out.now) (written out) h.0 a.text.now.bytes h.1 (sends.sent none))

    pub part-sent : AppendsPrefix before (written out) whole
    part-sent = elim (cases_Bool a.failed) as (λ _. AppendsPrefix before (written out) whole) [
      | inl some ↦ rw (sends.kept some) (had.part some)
      | inr none ↦
          let h = had.sent none in
          subst (λ x. AppendsPrefix before (written out) x) h.2 (Appends-AppendsPrefix before (written a.out.now) (written out) h.0 a.text.now.bytes h.1 (sends.part none))
    ]

    pub fault-sent : fails ≡ true → Rose since (faults out)
    fault-sent fault = elim (cases_Bool a.failed) [
      | inl some ↦ rw (sends.kept some) (had.fault some)
      | inr none ↦ omega (arith, had.never_falls, sends.fault fault none)
    ]

    pub falls-sent : since ≤ faults out
    falls-sent = omega (arith, had.never_falls, sends.never_falls)

  pub prints-flushed : (a b : Printer K) → b.text.ghost_name ≡ a.text.ghost_name → b.out.ghost_name ≡ a.out.ghost_name → b.text.now ≡ reserved a.text.now.limit
      → Sends written faults a.failed a.out.now a.text.now.bytes b.failed b.out.now → Prints written faults a b []
  prints-flushed a b text out empty sends = record {
    text = text;
    out = out;
    limit = ap (λ t. t.limit) empty;
    more = λ before since whole had. record {
      sent = λ none. (whole, all-sent before since a whole had b.failed b.out.now sends none, ap (λ t. whole ++ t.bytes) empty);
      part = λ some. AppendsPrefix-longer before (written b.out.now) whole [] (part-sent before since a whole had b.failed b.out.now sends);
      fault = fault-sent before since a whole had b.failed b.out.now sends;
      never_falls = falls-sent before since a whole had b.failed b.out.now sends;
    };
  }

  pub ends-err : {T E : Type 0} (a : Printer K) (out : K) (bytes : List ℕ) (fails : Bool) (x : E) → bytes ≡ a.text.now.bytes → fails ≡ true
      → Sends written faults a.failed a.out.now bytes fails out → Ends written faults {T = T} {E = E} a out (Err x)
  ends-err a out bytes fails x same is sent =
      let sends : Sends written faults a.failed a.out.now a.text.now.bytes fails out = rw same at sent in
      record {
        first = tt;
        all = λ before since whole had. tt;
        part = λ before since whole had. part-sent before since a whole had fails out sends;
        fault = λ before since whole had. fault-sent before since a whole had fails out sends is;
        never_falls = λ before since whole had. falls-sent before since a whole had fails out sends;
      }

  -- a piece for each item of a list, one after the other
  module _ {X : Type 0} (f : X → List ℕ) (xs : List X) where
    pub prints-next : (a b c : Printer K) (i : ℕ) (d : X) (piece : List ℕ) → i < length xs → piece ≡ f (get_or xs i d)
        → Prints written faults a b (flat_map f (take i xs)) → Prints written faults b c piece → Prints written faults a c (flat_map f (take (i + 1) xs))
    prints-next a b c i d piece lt is had more =
        prints-same a c (flat_map f (take i xs) ++ piece) (flat_map f (take (i + 1) xs))
        (ap (λ p. flat_map f (take i xs) ++ p) (is ∙ sym (append-nil (f (get_or xs i d)))) ∙ sym (flat_map-append f (take i xs) (get_or xs i d ∷ [])) ∙ ap (flat_map f) (sym (take_more xs i d lt)))
        (prints-then a b c (flat_map f (take i xs)) piece had more)

    pub prints-all : (a b : Printer K) (i : ℕ) → length xs ≤ i → Prints written faults a b (flat_map f (take i xs)) → Prints written faults a b (flat_map f xs)
    prints-all a b i all had = prints-same a b (flat_map f (take i xs)) (flat_map f xs) (ap (flat_map f) (take_all i xs all)) had
