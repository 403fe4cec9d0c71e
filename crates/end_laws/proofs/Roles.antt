-- Each array line has one role: a slot that has it is a line's or a gap, and one that no slot has is free or retired.
use Rattle.std.proofs.Common.{◌≡◌, ◌≢◌, ℕ, zero, suc, ◌+◌, ◌-◌, ◌*◌, ◌/◌, ◌%◌, ◌<◌, ◌≤◌, ◌⊎◌, inl, inr, refl, sym, ap, ◌∙◌, arith}
use Rattle.std.proofs.{lemmas.Bool.{cases_lt, cases_eq}, lemmas.Nat.{mul-add-lt, mod_below, div_below, div-mul-add, mod-mul-add, div-add-mod'}}
use Rattle.bank_shape.specs.{Shape.{slots_of, slot_at, slot_moved, controls_from, IsBankShape}, declared.BankShape.BankShape, declared.Role.Role}
use Rattle.bank_shape.{specs.declared.Role.TheVariants.{Line, Gap, Free, Retired, Control}, proofs.Sizes.slot_at-within}
use Rattle.start_gap.specs.Rotation.{Rotation, IsRotation, StandsFor, place_by, place_after, gap_after}
use Rattle.start_gap.proofs.Places.{rotation_after, rotation_after-range, rotation_after-stands, place_after-off_gap, place_after-apart}
use Rattle.start_gap.proofs.Turning.{line_before, line_behind, place-stands, gap-stands}
use Rattle.power_recovery.proofs.Placing.{slot_at-region, slot_at-place, same_line}
use Rattle.place_laws.proofs.Slots.{slot_moved-within, gap-within}
use Rattle.right_runs.specs.{Ends.BankEnd, Roles.{used_among, used_spares, IsRole, HasOneRole}}
use Rattle.end_laws.specs.Roles.{RoleLaw}

-- the used spares reach up to every slot's line
pub used-reaches : (shape : BankShape) (table : ℕ → ℕ) (slots slot : ℕ) → slot < slots → table slot < shape.base + slots_of shape + used_among shape table slots
used-reaches shape table zero slot below = absurd (omega (arith, below))
used-reaches shape table (suc slots) slot below =
    elim (cases_eq slot slots) [
      | inl is ↦
          let here : table slot ≡ table slots = ap table is in
          omega (arith, here)
      | inr other ↦
          let before : table slot < shape.base + slots_of shape + used_among shape table slots = used-reaches shape table slots slot (omega (arith, below, other)) in
          omega (arith, before)
    ]

-- and no further than to the last spare, where no slot has a control line
used-within : (shape : BankShape) (table : ℕ → ℕ) (slots : ℕ) → ((slot : ℕ) → slot < slots → table slot < controls_from shape) → used_among shape table slots ≤ shape.spares
used-within shape table zero within = omega arith
used-within shape table (suc slots) within =
    let own : table slots < controls_from shape = within slots (omega arith) in
    let before : used_among shape table slots ≤ shape.spares = used-within shape table slots (λ slot below. within slot (omega (arith, below))) in
    omega (arith, own, before)

-- one of these slots has the line, or none has
find_slot : (table : ℕ → ℕ) (at slots : ℕ) → ((slot : ℕ) × (slot < slots) × (table slot ≡ at)) ⊎ ((slot : ℕ) → slot < slots → table slot ≢ at)
find_slot table at zero = inr (λ slot below. absurd (omega (arith, below)))
find_slot table at (suc slots) = by (cases_eq (table slots) at) (find_slot table at slots)
  where
    by : (table slots ≡ at) ⊎ (table slots ≢ at) → ((slot : ℕ) × (slot < slots) × (table slot ≡ at)) ⊎ ((slot : ℕ) → slot < slots → table slot ≢ at)
        → ((slot : ℕ) × (slot < suc slots) × (table slot ≡ at)) ⊎ ((slot : ℕ) → slot < suc slots → table slot ≢ at)
    by (inl is) rest = inl (slots, omega arith, is)
    by (inr not) (inl found) = inl (found.0, omega (arith, found.1), found.2)
    by (inr not) (inr none) = inr (λ slot below same.
        elim (cases_eq slot slots) [
          | inl is ↦ not (ap table (sym is) ∙ same)
          | inr other ↦ none slot (omega (arith, below, other)) same
        ])

-- a place off the gap is that of a line
line_at_place : (n t place : ℕ) → 1 ≤ n → n ≤ 67108864 → place ≤ n → place ≢ gap_after n t → (line : ℕ) × (line < n) × (place_after n line t ≡ place)
line_at_place n t place some few within off =
    let r : Rotation = rotation_after n t in
    let range : IsRotation r = rotation_after-range n t some few in
    let stands : StandsFor r t = rotation_after-stands n t in
    let gap : r.gap ≡ gap_after n t = gap-stands r t range stands in
    let not_gap : place ≢ r.gap = λ same. off (same ∙ gap) in
    let ends : (line : ℕ) → (line < n) × (place_by r line ≡ place) → (line : ℕ) × (line < n) × (place_after n line t ≡ place) =
    λ line is. (line, is.0, sym (place-stands r t line range stands) ∙ is.1) in
    elim (cases_lt place r.gap) [
      | inl less ↦ ends ((place + n - r.start) % n) (line_before r place range less)
      | inr more ↦ ends ((place - 1 + n - r.start) % n) (line_behind r place range (omega (arith, more, not_gap)) within)
    ]

module _ (shape : BankShape) (range : IsBankShape shape) where
  -- each slot is a line's, or the gap of a region
  slot-used : (moves : ℕ → ℕ) (slot : ℕ) → slot < slots_of shape
      → ((line : ℕ) × (line < shape.regions * shape.lines) × (slot_moved shape line (moves (line / shape.lines)) ≡ slot))
      ⊎ ((region : ℕ) × (region < shape.regions) × (slot_at shape region (gap_after shape.lines (moves region)) ≡ slot))
  slot-used moves slot exists = by (cases_eq (slot % (shape.lines + 1)) (gap_after shape.lines (moves region)))
    where
      region : ℕ
      region = slot / (shape.lines + 1)

      within : region < shape.regions
      within = div_below slot (shape.lines + 1) shape.regions (omega arith) exists

      whole : region * (shape.lines + 1) + slot % (shape.lines + 1) ≡ slot
      whole = div-add-mod' slot (shape.lines + 1)

      place : slot % (shape.lines + 1) < shape.lines + 1
      place = mod_below slot (shape.lines + 1) (omega arith)

      held : (line : ℕ) × (line < shape.lines) × (place_after shape.lines line (moves region) ≡ slot % (shape.lines + 1))
          → (line : ℕ) × (line < shape.regions * shape.lines) × (slot_moved shape line (moves (line / shape.lines)) ≡ slot)
      held l =
          let own : ℕ = region * shape.lines + l.0 in
          let quotient : own / shape.lines ≡ region = div-mul-add region shape.lines l.0 l.1 in
          let offset : own % shape.lines ≡ l.0 = mod-mul-add region shape.lines l.0 l.1 in
          let below : own < shape.lines * shape.regions = mul-add-lt region shape.lines l.0 shape.regions within l.1 in
          let swap : shape.lines * shape.regions ≡ shape.regions * shape.lines = grind arith in (
            own,
            omega (arith, below, swap),
            ap (λ q. slot_at shape q (place_after shape.lines (own % shape.lines) (moves q))) quotient
                ∙ ap (λ o. slot_at shape region (place_after shape.lines o (moves region))) offset
                ∙ ap (λ p. slot_at shape region p) l.2 ∙ whole,
          )

      by : (slot % (shape.lines + 1) ≡ gap_after shape.lines (moves region)) ⊎ (slot % (shape.lines + 1) ≢ gap_after shape.lines (moves region))
          → ((line : ℕ) × (line < shape.regions * shape.lines) × (slot_moved shape line (moves (line / shape.lines)) ≡ slot))
          ⊎ ((region : ℕ) × (region < shape.regions) × (slot_at shape region (gap_after shape.lines (moves region)) ≡ slot))
      by (inl is) = inr (region, within, ap (λ p. slot_at shape region p) (sym is) ∙ whole)
      by (inr off) = inl (held (line_at_place shape.lines (moves region) (slot % (shape.lines + 1)) range.some_lines range.few_lines (omega (arith, place)) off))

  place-within : (line t : ℕ) → place_after shape.lines line t ≤ shape.lines
  place-within line t =
      let below : place_after shape.lines line t < shape.lines + 1 = mod_below (line + (t + line) / shape.lines) (shape.lines + 1) (omega arith) in
      omega (arith, below)

  -- two lines never have one slot
  lines-apart : (moves : ℕ → ℕ) (a b : ℕ) → slot_moved shape a (moves (a / shape.lines)) ≡ slot_moved shape b (moves (b / shape.lines)) → a ≡ b
  lines-apart moves a b same =
      let one : a / shape.lines ≡ b / shape.lines =
      slot_at-region shape (a / shape.lines) (place_after shape.lines (a % shape.lines) (moves (a / shape.lines))) (b / shape.lines) (place_after shape.lines (b % shape.lines) (moves (b / shape.lines)))
      (place-within (a % shape.lines) (moves (a / shape.lines))) (place-within (b % shape.lines) (moves (b / shape.lines))) same in
      let place : place_after shape.lines (a % shape.lines) (moves (a / shape.lines)) ≡ place_after shape.lines (b % shape.lines) (moves (b / shape.lines)) =
      slot_at-place shape (a / shape.lines) (place_after shape.lines (a % shape.lines) (moves (a / shape.lines))) (b / shape.lines) (place_after shape.lines (b % shape.lines) (moves (b / shape.lines)))
      (place-within (a % shape.lines) (moves (a / shape.lines))) (place-within (b % shape.lines) (moves (b / shape.lines))) same in
      let offsets : a % shape.lines ≡ b % shape.lines =
      place_after-apart shape.lines (moves (b / shape.lines)) (a % shape.lines) (b % shape.lines) range.some_lines range.few_lines (mod_below a shape.lines (omega (arith, range.some_lines))) (mod_below b shape.lines (omega (arith, range.some_lines)))
      (ap (λ q. place_after shape.lines (a % shape.lines) (moves q)) (sym one) ∙ place) in
      same_line shape.lines a b one offsets

  -- and no line has a gap
  lines-off_gap : (moves : ℕ → ℕ) (line region : ℕ) → slot_moved shape line (moves (line / shape.lines)) ≡ slot_at shape region (gap_after shape.lines (moves region)) → ⊥
  lines-off_gap moves line region same =
      let one : line / shape.lines ≡ region =
      slot_at-region shape (line / shape.lines) (place_after shape.lines (line % shape.lines) (moves (line / shape.lines))) region (gap_after shape.lines (moves region))
      (place-within (line % shape.lines) (moves (line / shape.lines))) (gap-within shape.lines (moves region)) same in
      let place : place_after shape.lines (line % shape.lines) (moves (line / shape.lines)) ≡ gap_after shape.lines (moves region) =
      slot_at-place shape (line / shape.lines) (place_after shape.lines (line % shape.lines) (moves (line / shape.lines))) region (gap_after shape.lines (moves region))
      (place-within (line % shape.lines) (moves (line / shape.lines))) (gap-within shape.lines (moves region)) same in
      place_after-off_gap shape.lines (moves region) (line % shape.lines) range.some_lines range.few_lines
      (ap (λ q. place_after shape.lines (line % shape.lines) (moves q)) (sym one) ∙ place)

  module _ (named : ℕ → ℕ) (end : BankEnd) (at : ℕ)
      (apart : (slot other : ℕ) → slot < slots_of shape → other < slots_of shape → end.table slot ≡ end.table other → slot ≡ other)
      (within : (slot : ℕ) → slot < slots_of shape → end.table slot < controls_from shape) where
    -- a slot has the line
    HasSlot : Type 0
    HasSlot = (slot : ℕ) × (slot < slots_of shape) × (end.table slot ≡ at)

    line-slot : (line : ℕ) → IsRole shape named end at (Line line) → HasSlot
    unfolding HasSlot
    line-slot line is = (slot_moved shape is.0 (end.moves (is.0 / shape.lines)), slot_moved-within shape is.0 (end.moves (is.0 / shape.lines)) range.some_lines is.1, is.2)

    gap-slot : IsRole shape named end at Gap → HasSlot
    unfolding HasSlot
    gap-slot is = (slot_at shape is.0 (gap_after shape.lines (end.moves is.0)), slot_at-within shape is.0 (gap_after shape.lines (end.moves is.0)) is.1 (gap-within shape.lines (end.moves is.0)), is.2)

    -- so it is neither free nor retired
    not-free : HasSlot → IsRole shape named end at Free → ⊥
    unfolding HasSlot
    not-free s free =
        let reaches : end.table s.0 < shape.base + slots_of shape + used_spares shape end.table = used-reaches shape end.table (slots_of shape) s.0 s.1 in
        omega (arith, reaches, s.2, free.0)

    not-retired : HasSlot → IsRole shape named end at Retired → ⊥
    unfolding HasSlot
    not-retired s gone = gone.1 s.0 s.1 s.2

    not-control : HasSlot → IsRole shape named end at Control → ⊥
    unfolding HasSlot
    not-control s control = omega (arith, within s.0 s.1, s.2, control)

    -- the used spares end before the control lines
    used-before : used_spares shape end.table ≤ shape.spares
    used-before = used-within shape end.table (slots_of shape) within

    line-gap : (line : ℕ) → IsRole shape named end at (Line line) → IsRole shape named end at Gap → ⊥
    line-gap line is gap =
        lines-off_gap end.moves is.0 gap.0
        (apart (slot_moved shape is.0 (end.moves (is.0 / shape.lines))) (slot_at shape gap.0 (gap_after shape.lines (end.moves gap.0)))
        (slot_moved-within shape is.0 (end.moves (is.0 / shape.lines)) range.some_lines is.1)
        (slot_at-within shape gap.0 (gap_after shape.lines (end.moves gap.0)) gap.1 (gap-within shape.lines (end.moves gap.0))) (is.2 ∙ sym gap.2))

    line-line : (a b : ℕ) → IsRole shape named end at (Line a) → IsRole shape named end at (Line b) → a ≡ b
    line-line a b is other =
        let one : is.0 ≡ other.0 =
        lines-apart end.moves is.0 other.0
        (apart (slot_moved shape is.0 (end.moves (is.0 / shape.lines))) (slot_moved shape other.0 (end.moves (other.0 / shape.lines)))
        (slot_moved-within shape is.0 (end.moves (is.0 / shape.lines)) range.some_lines is.1)
        (slot_moved-within shape other.0 (end.moves (other.0 / shape.lines)) range.some_lines other.1) (is.2 ∙ sym other.2)) in
        is.3 ∙ ap named one ∙ sym other.3

    -- two roles of one line are one
    one-role : (a b : Role) → IsRole shape named end at a → IsRole shape named end at b → a ≡ b
    one-role (Line a) (Line b) is other = ap Line (line-line a b is other)
    one-role (Line a) Gap is other = absurd (line-gap a is other)
    one-role (Line a) Free is other = absurd (not-free (line-slot a is) other)
    one-role (Line a) Retired is other = absurd (not-retired (line-slot a is) other)
    one-role (Line a) Control is other = absurd (not-control (line-slot a is) other)
    one-role Gap (Line b) is other = absurd (line-gap b other is)
    one-role Gap Free is other = absurd (not-free (gap-slot is) other)
    one-role Gap Retired is other = absurd (not-retired (gap-slot is) other)
    one-role Gap Control is other = absurd (not-control (gap-slot is) other)
    one-role Free (Line b) is other = absurd (not-free (line-slot b other) is)
    one-role Free Gap is other = absurd (not-free (gap-slot other) is)
    one-role Free Retired is other = absurd (omega (arith, is.0, other.0))
    one-role Free Control is other = absurd (omega (arith, is.1, other))
    one-role Retired (Line b) is other = absurd (not-retired (line-slot b other) is)
    one-role Retired Gap is other = absurd (not-retired (gap-slot other) is)
    one-role Retired Free is other = absurd (omega (arith, is.0, other.0))
    one-role Retired Control is other = absurd (omega (arith, is.0, other, used-before))
    one-role Control (Line b) is other = absurd (not-control (line-slot b other) is)
    one-role Control Gap is other = absurd (not-control (gap-slot other) is)
    one-role Control Free is other = absurd (omega (arith, is, other.1))
    one-role Control Retired is other = absurd (omega (arith, is, other.0, used-before))
    one-role _ _ is other = refl

    found : (role : Role) → IsRole shape named end at role → HasOneRole shape named end at
    found role is = record { role = role; is = is; only = λ other k. one-role other role k is }

    pub has_role : HasOneRole shape named end at
    has_role = by (find_slot end.table at (slots_of shape))
      where
        of_slot : (slot : ℕ) → end.table slot ≡ at
            → ((line : ℕ) × (line < shape.regions * shape.lines) × (slot_moved shape line (end.moves (line / shape.lines)) ≡ slot))
            ⊎ ((region : ℕ) × (region < shape.regions) × (slot_at shape region (gap_after shape.lines (end.moves region)) ≡ slot)) → HasOneRole shape named end at
        of_slot slot has (inl line) = found (Line (named line.0)) (line.0, line.1, ap end.table line.2 ∙ has, refl)
        of_slot slot has (inr gap) = found Gap (gap.0, gap.1, ap end.table gap.2 ∙ has)

        by : ((slot : ℕ) × (slot < slots_of shape) × (end.table slot ≡ at)) ⊎ ((slot : ℕ) → slot < slots_of shape → end.table slot ≢ at) → HasOneRole shape named end at
        by (inl s) = of_slot s.0 s.2 (slot-used end.moves s.0 s.1)
        by (inr none) =
            elim (cases_lt at (shape.base + slots_of shape + used_spares shape end.table)) [
              | inl less ↦ found Retired (less, none)
              | inr more ↦ behind more (cases_lt at (controls_from shape))
            ]
          where
            behind : shape.base + slots_of shape + used_spares shape end.table ≤ at → (at < controls_from shape) ⊎ (controls_from shape ≤ at) → HasOneRole shape named end at
            behind more (inl less) = found Free (more, less)
            behind more (inr control) = found Control control

pub role_law : RoleLaw
role_law shape named end at range apart within = has_role shape range named end at apart within
