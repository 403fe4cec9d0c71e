-- What the pass over the rows keeps of all banks.
use Rattle.std.proofs.Common.{◌≡◌, ℕ, zero, suc, ◌<◌, ◌≤◌, ◌==◌, ◌&&◌, ◌⊎◌, inl, inr, Bool, true, false, List, [], ◌∷◌, Option, Some, None, length, refl, sym, ap, ◌∙◌, subst, cond, arith}
use Rattle.std.{specs.List.list_all, specs.Prelude.unwrap_or, proofs.lemmas.Bool.{eq-eqb, ne_eqb, cases_eq}}
use Rattle.masked_bytes.proofs.Truth.{and_first, and_second}
use Rattle.row_rules.specs.{Queueing.has_room, Table.{is_of, of_bank}, declared.Asks.TheVariants.{Reads, Writes}, declared.Row.Row, declared.Rules.Rules}
use Rattle.check_judging.proofs.Sublists.{room_stays_law, room_behind_cut_law}
use Rattle.check_verdict.specs.{Fitting.room_kept, Judged.a_cut, Members.never}
use Rattle.check_verdict.specs.Passing.{is_joined, Passed, joined_room, put, AllRoomLaw, CutRoomLaw, SettleOneLaw, RoomSeenLaw, RowPassesLaw, CutPassedLaw}
use Rattle.check_verdict.{specs.States.{Facts, Stands, settled, cut_off}, specs.Verdicts.bank_in, proofs.Fits.room_shown, proofs.States.{stands_later_law, cut_passes_law}}

-- what holds of all banks holds of a line's
at_line : (p : ℕ → Bool) (banks : List ℕ) (line : ℕ) → line < length banks → list_all p banks ≡ true → p (bank_in banks line) ≡ true
at_line p [] line lt h = absurd (omega (arith, lt))
at_line p (b ∷ banks) zero lt h = and_first (p b) _ h
at_line p (b ∷ banks) (suc line) lt h = at_line p banks line (omega (arith, lt)) (and_second (p b) _ h)

all_pass : (p : ℕ → Bool) (banks : List ℕ) → ((bank : ℕ) → p bank ≡ true) → list_all p banks ≡ true
all_pass p [] all = refl
all_pass p (b ∷ banks) all = ap (λ c. c && list_all p banks) (all b) ∙ all_pass p banks all

-- where all but a line's bank pass, all do exactly where that one does
but_one : (p : ℕ → Bool) (one : ℕ) → ((bank : ℕ) → (one == bank) ≡ false → p bank ≡ true) → (banks : List ℕ) (line : ℕ) → line < length banks → bank_in banks line ≡ one
    → list_all p banks ≡ p one
but_one p one others banks line lt is = by (p one) refl
  where
    by : (b : Bool) → p one ≡ b → list_all p banks ≡ b
    by true holds = all_pass p banks (λ bank. each bank (cases_eq one bank))
      where
        each : (bank : ℕ) → (one ≡ bank) ⊎ (one ≡ bank → ⊥) → p bank ≡ true
        each bank (inl e) = ap p (sym e) ∙ holds
        each bank (inr ne) = others bank (ne_eqb one bank ne)
    by false differs = none (list_all p banks) (λ h. sym (ap p is ∙ differs) ∙ at_line p banks line lt h)
      where
        none : (c : Bool) → (c ≡ true → false ≡ true) → c ≡ false
        none true f = let k : false ≡ true = f refl in absurd (cc)
        none false f = refl

module _ {n : ℕ} (tick : ℕ) (rules : Rules) (banks : List ℕ) (at : ℕ → ℕ) (facts : ℕ → Facts) (before : List (Row n)) (u : ℕ) (le : tick ≤ u) (below : u < never) where
  -- a bank's room, settled
  own_room : (joined : Option ℕ) → Passed rules banks tick at facts joined before → (bank : ℕ)
      → has_room rules u (of_bank (bank_in banks) bank before)
      ≡ room_kept rules.writes rules.reads (settled u (facts bank)).members (settled u (facts bank)).waits (settled u (facts bank)).lost
  own_room joined p bank =
      let by = p.by bank in
      let s = stands_later_law n (at bank) u (of_bank (bank_in banks) bank before) (facts bank) (omega (arith, by, le)) below (p.stand bank) in
      room_shown rules u (of_bank (bank_in banks) bank before) (settled u (facts bank)).members (settled u (facts bank)).waits (settled u (facts bank)).lost
      (settled u (facts bank)).last_answer (settled u (facts bank)).last_store s.finds.kept s.finds.brief s.near

  other_room : (joined : Option ℕ) → Passed rules banks tick at facts joined before → (bank : ℕ) → is_joined banks joined bank ≡ false
      → has_room rules u (of_bank (bank_in banks) bank before) ≡ true
  other_room joined p bank differs = let by = p.by bank in room_stays_law n (at bank) u rules (of_bank (bank_in banks) bank before) (omega (arith, by, le)) (p.room bank differs)

  rooms : (joined : Option ℕ) → Passed rules banks tick at facts joined before
      → list_all (λ bank. has_room rules u (of_bank (bank_in banks) bank before)) banks ≡ joined_room rules banks u facts joined
  rooms None p = all_pass (λ bank. has_room rules u (of_bank (bank_in banks) bank before)) banks (λ bank. other_room None p bank refl)
  rooms (Some line) p =
      but_one (λ bank. has_room rules u (of_bank (bank_in banks) bank before)) (bank_in banks line) (λ bank differs. other_room (Some line) p bank differs) banks line (p.known line refl) refl
      ∙ own_room (Some line) p (bank_in banks line)

pub cut_room_law : CutRoomLaw
cut_room_law n tick rules banks at facts joined before r after p le below = rooms tick rules banks at facts before r.tick le below joined p

pub all_room_law : AllRoomLaw
all_room_law n tick rules banks at facts joined before r after line p le below lt = record {
  all = rooms tick rules banks at facts before r.tick le below joined p;
  own = λ h. at_line (λ bank. has_room rules r.tick (of_bank (bank_in banks) bank before)) banks line lt (rooms tick rules banks at facts before r.tick le below joined p ∙ h);
}

-- One bank's facts

module _ {A : Type 0} (f : ℕ → A) (one : ℕ) (x : A) where
  put_there : (k : ℕ) → k ≡ one → put f one x k ≡ x
  put_there k is = ap (λ b. cond b x (f k)) (eq-eqb k one is)

  put_elsewhere : (k : ℕ) → (k ≡ one → ⊥) → put f one x k ≡ f k
  put_elsewhere k is_not = ap (λ b. cond b x (f k)) (ne_eqb k one is_not)

module _ {n : ℕ} (tick u bank : ℕ) (rules : Rules) (banks : List ℕ) (at : ℕ → ℕ) (facts : ℕ → Facts) (joined : Option ℕ) (before : List (Row n))
    (p : Passed rules banks tick at facts joined before) (le : tick ≤ u) (below : u < never) where
  settle_stands : (k : ℕ) → (k ≡ bank) ⊎ (k ≡ bank → ⊥) → Stands (put at bank u k) (of_bank (bank_in banks) k before) (put facts bank (settled u (facts bank)) k)
  settle_stands k (inl is) =
      subst (λ t. Stands t (of_bank (bank_in banks) k before) (put facts bank (settled u (facts bank)) k)) (sym (put_there at bank u k is))
      (subst (λ f. Stands u (of_bank (bank_in banks) k before) f) (ap (λ j. settled u (facts j)) is ∙ sym (put_there facts bank (settled u (facts bank)) k is))
      (let by = p.by k in stands_later_law n (at k) u (of_bank (bank_in banks) k before) (facts k) (omega (arith, by, le)) below (p.stand k)))
  settle_stands k (inr is_not) =
      subst (λ t. Stands t (of_bank (bank_in banks) k before) (put facts bank (settled u (facts bank)) k)) (sym (put_elsewhere at bank u k is_not))
      (subst (λ f. Stands (at k) (of_bank (bank_in banks) k before) f) (sym (put_elsewhere facts bank (settled u (facts bank)) k is_not)) (p.stand k))

  settle_by : (k : ℕ) → (k ≡ bank) ⊎ (k ≡ bank → ⊥) → put at bank u k ≤ u
  settle_by k (inl is) = let e = put_there at bank u k is in omega (arith, e)
  settle_by k (inr is_not) = let e = put_elsewhere at bank u k is_not in let by = p.by k in omega (arith, e, by, le)

  settle_room : (k : ℕ) → (k ≡ bank) ⊎ (k ≡ bank → ⊥) → is_joined banks joined k ≡ false → has_room rules (put at bank u k) (of_bank (bank_in banks) k before) ≡ true
  settle_room k (inl is) differs =
      ap (λ t. has_room rules t (of_bank (bank_in banks) k before)) (put_there at bank u k is) ∙ (let by = p.by k in room_stays_law n (at k) u rules (of_bank (bank_in banks) k before) (omega (arith, by, le)) (p.room k differs))
  settle_room k (inr is_not) differs = ap (λ t. has_room rules t (of_bank (bank_in banks) k before)) (put_elsewhere at bank u k is_not) ∙ p.room k differs

pub settle_one_law : SettleOneLaw
settle_one_law n tick u bank rules banks at facts joined before p le below = record {
  stand = λ k. settle_stands tick u bank rules banks at facts joined before p le below k (cases_eq k bank);
  by = λ k. settle_by tick u bank rules banks at facts joined before p le below k (cases_eq k bank);
  room = λ k differs. settle_room tick u bank rules banks at facts joined before p le below k (cases_eq k bank) differs;
  known = p.known;
}

pub room_seen_law : RoomSeenLaw
room_seen_law n tick line rules banks at facts before p seen = record {
  stand = p.stand;
  by = p.by;
  room = λ k differs. each k (cases_eq (bank_in banks line) k);
  known = λ other is. absurd (cc);
}
  where
    each : (k : ℕ) → (bank_in banks line ≡ k) ⊎ (bank_in banks line ≡ k → ⊥) → has_room rules (at k) (of_bank (bank_in banks) k before) ≡ true
    each k (inl is) = subst (λ j. has_room rules (at j) (of_bank (bank_in banks) j before) ≡ true) is seen
    each k (inr is_not) = p.room k (ne_eqb (bank_in banks line) k is_not)

-- a row of a line among those of a bank
module _ {n : ℕ} (banks : List ℕ) (line : ℕ) (r : Row n) (before : List (Row n)) where
  abbrev Of : Type 0
  Of = (r.asks ≡ Reads line) ⊎ ((bytes : List ℕ) × (given : List Bool) × (r.asks ≡ Writes line bytes given))

  asks_line : Of → (k : ℕ) → is_of (bank_in banks) k r.asks ≡ (bank_in banks line == k)
  asks_line (inl is) k = ap (is_of (bank_in banks) k) is
  asks_line (inr w) k = ap (is_of (bank_in banks) k) w.2

  in_own : Of → (k : ℕ) → bank_in banks line ≡ k → of_bank (bank_in banks) k (r ∷ before) ≡ r ∷ of_bank (bank_in banks) k before
  in_own of k is = ap (λ b. cond b (r ∷ of_bank (bank_in banks) k before) (of_bank (bank_in banks) k before)) (asks_line of k ∙ eq-eqb (bank_in banks line) k is)

  in_other : Of → (k : ℕ) → (bank_in banks line ≡ k → ⊥) → of_bank (bank_in banks) k (r ∷ before) ≡ of_bank (bank_in banks) k before
  in_other of k is_not = ap (λ b. cond b (r ∷ of_bank (bank_in banks) k before) (of_bank (bank_in banks) k before)) (asks_line of k ∙ ne_eqb (bank_in banks line) k is_not)

pub row_passes_law : RowPassesLaw
row_passes_law n tick line rules banks at facts before r f p lt now of stands = record {
  stand = λ k. each k (cases_eq (bank_in banks line) k);
  by = p.by;
  room = λ k differs. free k differs;
  known = λ other is. subst (λ l. l < length banks) (ap (λ o. unwrap_or o 0) is) lt;
}
  where
    each : (k : ℕ) → (bank_in banks line ≡ k) ⊎ (bank_in banks line ≡ k → ⊥) → Stands (at k) (of_bank (bank_in banks) k (r ∷ before)) (put facts (bank_in banks line) f k)
    each k (inl is) =
        subst (λ rows. Stands (at k) rows (put facts (bank_in banks line) f k)) (sym (in_own banks line r before of k is))
        (subst (λ g. Stands (at k) (r ∷ of_bank (bank_in banks) k before) g) (sym (put_there facts (bank_in banks line) f k (sym is)))
        (subst (λ t. Stands t (r ∷ of_bank (bank_in banks) k before) f) (sym now ∙ ap at is)
        (subst (λ j. Stands tick (r ∷ of_bank (bank_in banks) j before) f) is stands)))
    each k (inr is_not) =
        subst (λ rows. Stands (at k) rows (put facts (bank_in banks line) f k)) (sym (in_other banks line r before of k is_not))
        (subst (λ g. Stands (at k) (of_bank (bank_in banks) k before) g) (sym (put_elsewhere facts (bank_in banks line) f k (λ e. is_not (sym e)))) (p.stand k))

    free : (k : ℕ) → (bank_in banks line == k) ≡ false → has_room rules (at k) (of_bank (bank_in banks) k (r ∷ before)) ≡ true
    free k differs =
        ap (has_room rules (at k)) (in_other banks line r before of k (λ e. yes_no (sym (eq-eqb (bank_in banks line) k e) ∙ differs)))
        ∙ p.room k refl
      where
        yes_no : true ≡ false → ⊥
        yes_no e = absurd (cc)

pub cut_passed_law : CutPassedLaw
cut_passed_law n tick outcome rules banks some at facts before p now served brief = record {
  stand = λ k. subst (λ t. Stands t (a_cut tick outcome ∷ of_bank (bank_in banks) k before) (cut_off (facts k))) (sym (now k))
      (cut_passes_law n tick outcome rules (of_bank (bank_in banks) k before) (facts k) some
      (subst (λ t. Stands t (of_bank (bank_in banks) k before) (facts k)) (now k) (p.stand k))
      (subst (λ t. has_room rules t (of_bank (bank_in banks) k before) ≡ true) (now k) (p.room k refl)) served brief);
  by = p.by;
  room = λ k differs. room_behind_cut_law n (at k) rules (a_cut tick outcome) (of_bank (bank_in banks) k before) refl (p.room k refl);
  known = λ other is. absurd (cc);
}
