-- The lines of a read tell exactly the outcomes that are right.
use Rattle.std.proofs.Common.{◌≡◌, ℕ, ◌-◌, ◌<◌, ◌≤◌, ◌&&◌, ◌||◌, ◌==◌, not, Bool, true, false, List, [], Option, Some, None, refl, sym, ap, ◌∙◌, cond, arith}
use Rattle.std.{specs.List.list_any, specs.Prelude.{nat_le, nat_lt, reverse}, proofs.lemmas.Bool.{eqb-true, leb-true, le-leb, ltb-true, ltb-false}}
use Rattle.masked_bytes.proofs.Truth.{and_false, and_true, or_false}
use Rattle.result_rows.specs.declared.Outcome.{Outcome}
use Rattle.result_rows.specs.declared.Outcome.TheVariants as out
use Rattle.row_rules.specs.{Serving.same_bytes, declared.Row.Row, declared.Rules.Rules}
use Rattle.check_verdict.specs.{Judged.{a_read, beside}, Keeping.{before_cut, at_cut}, Verdicts.bank_in, declared.Rule.Rule}
use Rattle.check_telling.specs.{Grounds.{TellsRead, grounds_of}, Right.{RightReadLaw, is_right_read, read_grounds}, Standing.tick_at, declared.facts.RowAt.RowAt}
use Rattle.check_telling.specs.declared.grounds.Grounds.{Grounds}
use Rattle.clause_telling.{specs.Rooms.{TellsRoom, is_room}, specs.declared.room.Crowd.Crowd, proofs.Rooms.room_law}
use Rattle.verdict_telling.specs.Explained.{MayTell, is_offered, is_right}
use Rattle.verdict_telling.specs.Offers.{Offer, Lost, Busy, Forwarded, can_forward, can_read, can_refuse, has_free, is_none_of, last_tick, line_if, lines_of, lost_line, offers}
use Rattle.verdict_telling.{specs.Offers.{read_line, read_lines}, proofs.Banks.rising_of_bank, proofs.Lines.{any_if, free_found, skip, skip_lost}}
use Rattle.verdict_telling.specs.declared.row.Finds.TheVariants as finds

-- the last tick at which a read may be read is its bound, or the first cut
pub last_is : (u by : ℕ) (cut : Option RowAt) → nat_le u (last_tick by cut) ≡ (nat_le u by && before_cut u (tick_at cut))
last_is u by None = sym (and_true (nat_le u by))
last_is u by (Some cut) = low (nat_lt cut.tick by) refl
  where
    short : cut.tick < by → (b : Bool) → nat_le u cut.tick ≡ b → b ≡ (nat_le u by && b)
    short lt true t = let le = leb-true u cut.tick t in sym (ap (λ b. b && true) (le-leb u by (omega (arith, le, lt))))
    short lt false f = sym (and_false (nat_le u by))

    long : by ≤ cut.tick → (b : Bool) → nat_le u by ≡ b → b ≡ (b && nat_le u cut.tick)
    long le true t = let l = leb-true u by t in sym (le-leb u cut.tick (omega (arith, l, le)))
    long le false f = refl

    low : (b : Bool) → nat_lt cut.tick by ≡ b → nat_le u (cond b cut.tick by) ≡ (nat_le u by && nat_le u cut.tick)
    low true t = short (ltb-true cut.tick by t) (nat_le u cut.tick) refl
    low false f = long (ltb-false cut.tick by f) (nat_le u by) refl

-- ---- the tests of a read that is read, and of one that is lost

shape : (s nc nf x w free : Bool) → x ≡ (w && free) → (s && (nc && (nf && x))) ≡ ((w && s) && ((nc && nf) && free))
shape true true true x true free e = e
shape true true true x false free e = e
shape true true false x true free e = refl
shape true true false x false free e = refl
shape true false nf x true free e = refl
shape true false nf x false free e = refl
shape false nc nf x true free e = refl
shape false nc nf x false free e = refl

reach : (from by cut none to free : Bool) → to ≡ (by && cut) → (from ≡ true → to ≡ true → none ≡ true → free ≡ true)
    → (from && (by && (cut && none))) ≡ (((from && to) && none) && free)
reach false by cut none to free t some = refl
reach true true true true true free t some = sym (some refl refl refl)
reach true true true false true free t some = refl
reach true true true none false free t some = absurd (cc)
reach true true false none true free t some = absurd (cc)
reach true true false none false free t some = refl
reach true false cut none true free t some = absurd (cc)
reach true false cut none false free t some = refl

lose : (e nc nf own other : Bool) → (e ≡ true → own ≡ other) → (nc && (nf && (e && own))) ≡ ((e && ((nc && nf) && other)) || false)
lose true true true own other same = same refl ∙ sym (or_false other)
lose true true false own other same = refl
lose true false nf own other same = refl
lose false true true own other same = refl
lose false true false own other same = refl
lose false false nf own other same = refl

never : (nc nf : Bool) → (nc && (nf && false)) ≡ false
never true nf = and_false nf
never false nf = refl

module _ {n : ℕ} (past later : List (Row n)) (g : Grounds n) (tick : ℕ) where
  abbrev to : ℕ
  to = last_tick g.by g.cut

  -- no line of others offers a read
  no_line : (p : Offer → Bool) → p (read_line g) ≡ false → ((t : ℕ) → p (Lost t) ≡ false) → p (Busy tick) ≡ false → p (Forwarded tick g.newest.bytes) ≡ false
      → list_any p (read_lines g tick) ≡ false
  no_line p r l b f =
      skip p (can_read g) (read_line g) (lost_line g g.cut (line_if (can_refuse g) (Busy tick) (line_if (can_forward g) (Forwarded tick g.newest.bytes) []))) r
      ∙ skip_lost g p g.cut (line_if (can_refuse g) (Busy tick) (line_if (can_forward g) (Forwarded tick g.newest.bytes) [])) l
      ∙ skip p (can_refuse g) (Busy tick) (line_if (can_forward g) (Forwarded tick g.newest.bytes) []) b ∙ skip p (can_forward g) (Forwarded tick g.newest.bytes) [] f

  abbrev coming : List Offer
  coming = line_if (can_refuse g) (Busy tick) (line_if (can_forward g) (Forwarded tick g.newest.bytes) [])

  none_coming : (p : Offer → Bool) → p (Busy tick) ≡ false → p (Forwarded tick g.newest.bytes) ≡ false → list_any p coming ≡ false
  none_coming p b f = skip p (can_refuse g) (Busy tick) (line_if (can_forward g) (Forwarded tick g.newest.bytes) []) b ∙ skip p (can_forward g) (Forwarded tick g.newest.bytes) [] f

  lost_is : (u : ℕ) (cut : Option RowAt) → (not g.covered && (not g.full && (at_cut u (tick_at cut) && nat_lt u g.by))) ≡ list_any (offers past later (out.Lost u)) (lost_line g cut coming)
  lost_is u None = never (not g.covered) (not g.full) ∙ sym (none_coming (offers past later (out.Lost u)) refl refl)
  lost_is u (Some cut) =
      lose (cut.tick == u) (not g.covered) (not g.full) (nat_lt u g.by) (nat_lt cut.tick g.by) (λ e. ap (λ k. nat_lt k g.by) (sym (eqb-true cut.tick u e)))
      ∙ sym (any_if (offers past later (out.Lost u)) ((not g.covered && not g.full) && nat_lt cut.tick g.by) (Lost cut.tick) coming
      ∙ ap (λ b. ((cut.tick == u) && ((not g.covered && not g.full) && nat_lt cut.tick g.by)) || b) (none_coming (offers past later (out.Lost u)) refl refl))

  read_is : (u place : ℕ) (told : List ℕ) → is_right_read {n = n} tick (grounds_of g) (out.Read u place told) ≡ list_any (offers past later (out.Read u place told)) (read_lines g tick)
  read_is u place told =
      let p = offers past later (out.Read u place told) in
      let own = is_none_of u g.taken.items in
      shape (same_bytes told g.newest.bytes) (not g.covered) (not g.full) _ _ (has_free g.from to g.taken.items)
      (reach (nat_le g.from u) (nat_le u g.by) (before_cut u (tick_at g.cut)) own (nat_le u to) (has_free g.from to g.taken.items) (last_is u g.by g.cut)
      (λ f t none. let low = leb-true g.from u f in
      free_found g.from to g.taken.items (u - g.from) u (omega (arith, low)) (leb-true u to t) none))
      ∙ sym (any_if p (can_read g) (read_line g) (lost_line g g.cut coming)
      ∙ ap (λ b. (p (read_line g) && can_read g) || b) (skip_lost g p g.cut coming (λ t. refl) ∙ none_coming p refl refl) ∙ or_false (p (read_line g) && can_read g))

  -- its lines offer exactly the outcomes that what it finds calls right
  pub read_lines_tell : (o : Outcome n) → is_right_read tick (grounds_of g) o ≡ list_any (offers past later o) (read_lines g tick)
  read_lines_tell (out.Read u place told) = read_is u place told
  read_lines_tell (out.Lost u) =
      lost_is u g.cut ∙ sym (skip (offers past later (out.Lost u)) (can_read g) (read_line g) (lost_line g g.cut coming) refl)
  read_lines_tell (out.Busy u) =
      let p = offers past later (out.Busy u) in
      sym (skip p (can_read g) (read_line g) (lost_line g g.cut coming) refl ∙ skip_lost g p g.cut coming (λ t. refl)
      ∙ any_if p (can_refuse g) (Busy tick) (line_if (can_forward g) (Forwarded tick g.newest.bytes) [])
      ∙ ap (λ b. ((u == tick) && can_refuse g) || b) (skip p (can_forward g) (Forwarded tick g.newest.bytes) [] refl) ∙ or_false ((u == tick) && can_refuse g))
  read_lines_tell (out.Forwarded u told) =
      let p = offers past later (out.Forwarded u told) in
      sym (skip p (can_read g) (read_line g) (lost_line g g.cut coming) refl ∙ skip_lost g p g.cut coming (λ t. refl)
      ∙ skip p (can_refuse g) (Busy tick) (line_if (can_forward g) (Forwarded tick g.newest.bytes) []) refl
      ∙ any_if p (can_forward g) (Forwarded tick g.newest.bytes) [] ∙ or_false (((u == tick) && same_bytes told g.newest.bytes) && can_forward g))
  read_lines_tell out.Unset = sym (no_line (offers past later out.Unset) refl (λ t. refl) refl refl)
  read_lines_tell (out.Stored u place) = sym (no_line (offers past later (out.Stored u place)) refl (λ t. refl) refl refl)
  read_lines_tell (out.Merged u) = sym (no_line (offers past later (out.Merged u)) refl (λ t. refl) refl refl)
  read_lines_tell (out.Queued u) = sym (no_line (offers past later (out.Queued u)) refl (λ t. refl) refl refl)
  read_lines_tell (out.Full u) = sym (no_line (offers past later (out.Full u)) refl (λ t. refl) refl refl)
  read_lines_tell (out.Worn u) = sym (no_line (offers past later (out.Worn u)) refl (λ t. refl) refl refl)
  read_lines_tell (out.Cut u) = sym (no_line (offers past later (out.Cut u)) refl (λ t. refl) refl refl)

-- so they do where the row is read, as far as the banks have room
module _ {n : ℕ} (rules : Rules) (banks : List ℕ) (before after : List (Row n)) (tick line : ℕ) (own : Outcome n) (rule : Rule) (g : Grounds n)
    (law : RightReadLaw) where
  pub read_exact : (crowd : Option (Crowd n)) → MayTell rules banks before (a_read tick line own) after rule → TellsRoom rules banks tick (reverse before) crowd
      → TellsRead rules banks tick line before after g → (o : Outcome n)
      → is_right rules banks before (a_read tick line own) after o ≡ is_offered rules banks before (a_read tick line own) after (lines_of rules tick (finds.Read g) crowd) o
  read_exact crowd may room tells o =
      let some = may.limits.some_read in
      law n tick line o rules banks (reverse before) after (omega (arith, some)) (rising_of_bank (bank_in banks) (bank_in banks line) tick after may.rises)
      ∙ ap (λ b. b && is_right_read tick (read_grounds rules banks tick line (reverse before) after) o) (room_law n rules banks (reverse before) (a_read tick line own) after crowd may.had may.own room)
      ∙ ap (λ found. is_room crowd && is_right_read tick found o) (sym tells.grounds) ∙ by crowd
    where
      by : (crowd : Option (Crowd n)) → (is_room crowd && is_right_read tick (grounds_of g) o)
          ≡ is_offered rules banks before (a_read tick line own) after (lines_of rules tick (finds.Read g) crowd) o
      by None = read_lines_tell (beside banks line (reverse before)) (beside banks line after) g tick o
      by (Some crowd) = refl
