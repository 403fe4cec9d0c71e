-- The spares of a chain, the newest first, and the lists that hold a table.
use Rattle.std.proofs.Common.{◌≡◌, ◌≢◌, ℕ, zero, suc, ◌+◌, ◌-◌, ◌%◌, ◌<◌, ◌≤◌, ◌==◌, true, false, if◌then◌else◌, inl, inr, List, [], ◌∷◌, ◌++◌, length, map, slice_index, get_or, take, refl, sym, ◌∙◌, ap, subst, arith}
use Rattle.std.proofs.{Math.ListN.{length-set, set}, Math.Seq.take-set-le, lemmas.Bool.cases_eq, lemmas.Bool.Decides.nat_tests, lemmas.Grind.get_or_default_zero}
use Rattle.std.proofs.lemmas.List.{get_or-set_same, get_or-set_other, get_or-take, length-map, length-take-le, map-append, take_more, take_more_set}
use Rattle.spare_pool.specs.Table.{Table, line_from, line_by, used_by, retired_table, chain_of, newest_of, Stores, stored_table}
use Rattle.spare_pool.proofs.Lines.{line_from-more, line_by-retired, IsTable-retired, only_given}

-- one more retirement is the newest of its chain
newest_of-more : (replaced : List ℕ) (slot chain : ℕ) → newest_of (replaced ++ slot ∷ []) chain ≡ (if chain_of slot == chain then 1 + length replaced else newest_of replaced chain)
newest_of-more replaced slot chain =
    ap (λ xs. line_from 1 0 xs chain) (map-append chain_of replaced (slot ∷ []))
    ∙ line_from-more 1 0 (map chain_of replaced) (chain_of slot) chain
    ∙ ap (λ n. if chain_of slot == chain then 1 + n else newest_of replaced chain) (length-map replaced chain_of)

-- what the first `count` retirements say of a slot, those up to this one say too; and it is of the slot's chain
pub record Newest (next first : ℕ) (replaced : List ℕ) (slot count number : ℕ) : Type 0 where
  pub within : number ≤ count
  pub same : line_from next first (take count replaced) slot ≡ line_from next first (take number replaced) slot
  pub chain : 1 ≤ number → chain_of (slice_index replaced (number - 1)) ≡ chain_of slot

-- a retirement of another slot says nothing of this one
passed : (next first : ℕ) (replaced : List ℕ) (slot spare : ℕ) → spare < length replaced → slice_index replaced spare ≢ slot
    → line_from next first (take (spare + 1) replaced) slot ≡ line_from next first (take spare replaced) slot
passed next first replaced slot spare exists other =
    let test : (slice_index replaced spare == slot) ≡ false = grind (arith, nat_tests) in
    ap (λ xs. line_from next first xs slot) (take_more replaced spare 0 exists)
    ∙ line_from-more next first (take spare replaced) (slice_index replaced spare) slot
    ∙ ap (λ b. if b then next + length (take spare replaced) else line_from next first (take spare replaced) slot) test

one_more : (next first : ℕ) (replaced : List ℕ) (slot count : ℕ) → count < length replaced
    → Newest next first replaced slot count (newest_of (take count replaced) (chain_of slot)) → Newest next first replaced slot (count + 1) (newest_of (take (count + 1) replaced) (chain_of slot))
one_more next first replaced slot count exists before =
    let last : ℕ = slice_index replaced count in
    let more : newest_of (take (count + 1) replaced) (chain_of slot) ≡ (if chain_of last == chain_of slot then 1 + length (take count replaced) else newest_of (take count replaced) (chain_of slot))
    = ap (λ xs. newest_of xs (chain_of slot)) (take_more replaced count 0 exists) ∙ newest_of-more (take count replaced) last (chain_of slot) in
    elim (cases_eq (chain_of last) (chain_of slot)) [
      | inl here ↦
          let test : (chain_of last == chain_of slot) ≡ true = grind (arith, nat_tests) in
          let number : newest_of (take (count + 1) replaced) (chain_of slot) ≡ count + 1
          = more ∙ ap (λ b. if b then 1 + length (take count replaced) else newest_of (take count replaced) (chain_of slot)) test ∙ omega (arith, length-take-le count replaced (omega (arith, exists))) in
          subst (Newest next first replaced slot (count + 1)) (sym number) (record {
            within = omega arith;
            same = refl;
            chain = λ some. ap (λ i. chain_of (slice_index replaced i)) (omega arith) ∙ here;
          })
      | inr apart ↦
          let test : (chain_of last == chain_of slot) ≡ false = grind (arith, nat_tests) in
          let number : newest_of (take (count + 1) replaced) (chain_of slot) ≡ newest_of (take count replaced) (chain_of slot)
          = more ∙ ap (λ b. if b then 1 + length (take count replaced) else newest_of (take count replaced) (chain_of slot)) test in
          subst (Newest next first replaced slot (count + 1)) (sym number) (record {
            within = omega (arith, before.within);
            same = passed next first replaced slot count exists (λ e. apart (ap chain_of e)) ∙ before.same;
            chain = before.chain;
          })
    ]

pub newest : (next first : ℕ) (replaced : List ℕ) (slot count : ℕ) → count ≤ length replaced → Newest next first replaced slot count (newest_of (take count replaced) (chain_of slot))
newest next first replaced slot zero few = record { within = omega arith; same = refl; chain = λ some. absurd (omega arith) }
newest next first replaced slot (suc count) few =
    let on : count + 1 ≡ suc count = omega arith in
    subst (λ n. Newest next first replaced slot n (newest_of (take n replaced) (chain_of slot))) on (one_more next first replaced slot count (omega (arith, few)) (newest next first replaced slot count (omega (arith, few))))

-- ---- a slot's chain is looked through

pub looks : (slots : ℕ) (replaced : List ℕ) (used : ℕ) (heads links : List ℕ) (slot number : ℕ) → Stores slots replaced used heads links → number ≡ get_or heads (slot % 256) number
    → slot % 256 < 256 → Newest slots slot replaced slot used number
looks slots replaced used heads links slot number stores is low =
    let head : number ≡ newest_of (take used replaced) (chain_of slot)
    = is ∙ get_or_default_zero heads (slot % 256) number (omega (arith, low, stores.chains)) ∙ stores.newest (slot % 256) low in
    subst (Newest slots slot replaced slot used) (sym head) (newest slots slot replaced slot used stores.within)

-- the spare at this number went to another slot
pub looks_on : (slots : ℕ) (replaced : List ℕ) (used : ℕ) (heads links : List ℕ) (slot number next at : ℕ) → Stores slots replaced used heads links → Newest slots slot replaced slot used number
    → 1 ≤ number → at ≡ get_or replaced (number - 1) at → at ≢ slot → next ≡ get_or links (number - 1) next → (next < number) × Newest slots slot replaced slot used next
looks_on slots replaced used heads links slot number next at stores looked some at_is other next_is =
    let spare : ℕ = number - 1 in
    let few : spare < used = omega (arith, some, looked.within) in
    let exists : spare < length replaced = omega (arith, few, stores.within) in
    let read : at ≡ slice_index replaced spare = at_is ∙ get_or_default_zero replaced spare at exists in
    let before : next ≡ newest_of (take spare replaced) (chain_of slot)
    = next_is ∙ get_or_default_zero links spare next (omega (arith, exists, stores.linked)) ∙ stores.before spare few ∙ ap (newest_of (take spare replaced)) (looked.chain some) in
    let rest : Newest slots slot replaced slot spare next = subst (Newest slots slot replaced slot spare) (sym before) (newest slots slot replaced slot spare (omega (arith, exists))) in
    let on : spare + 1 ≡ number = omega (arith, some) in (
      omega (arith, rest.within, some),
      record {
        within = omega (arith, rest.within, few);
        same =
            looked.same ∙ ap (λ n. line_from slots slot (take n replaced) slot) (sym on)
            ∙ passed slots slot replaced slot spare exists (λ e. other (read ∙ e)) ∙ rest.same;
        chain = rest.chain;
      },
    )

-- it is the newest that the slot was given
pub finds : (slots : ℕ) (replaced : List ℕ) (used : ℕ) (heads links : List ℕ) (slot number at : ℕ) → Stores slots replaced used heads links → Newest slots slot replaced slot used number
    → 1 ≤ number → at ≡ get_or replaced (number - 1) at → at ≡ slot → slots + (number - 1) ≡ line_by (stored_table slots replaced used) slot
finds slots replaced used heads links slot number at stores looked some at_is here =
    let spare : ℕ = number - 1 in
    let exists : spare < length replaced = omega (arith, some, looked.within, stores.within) in
    let read : slice_index replaced spare ≡ slot = sym (at_is ∙ get_or_default_zero replaced spare at exists) ∙ here in
    let test : (slice_index replaced spare == slot) ≡ true = grind (arith, nat_tests) in
    let on : spare + 1 ≡ number = omega (arith, some) in
    sym (
    looked.same ∙ ap (λ n. line_from slots slot (take n replaced) slot) (sym on) ∙ ap (λ xs. line_from slots slot xs slot) (take_more replaced spare 0 exists)
    ∙ line_from-more slots slot (take spare replaced) (slice_index replaced spare) slot
    ∙ ap (λ b. if b then slots + length (take spare replaced) else line_from slots slot (take spare replaced) slot) test
    ∙ ap (λ n. slots + n) (length-take-le spare replaced (omega (arith, exists)))
    )

-- ---- the lists at the beginning, and after one more retirement

-- a used spare went to one slot alone
pub spare-slot : (slots : ℕ) (replaced : List ℕ) (used : ℕ) (heads links : List ℕ) (spare slot : ℕ) → Stores slots replaced used heads links → spare < used → slot ≡ get_or replaced spare slot
    → slot ≡ slice_index (take used replaced) spare
spare-slot slots replaced used heads links spare slot stores h e =
    e ∙ get_or_default_zero replaced spare slot (omega (arith, stores.within)) ∙ sym (get_or-take used replaced spare 0 h)

pub spare-only : (slots : ℕ) (replaced : List ℕ) (used : ℕ) (heads links : List ℕ) (line slot : ℕ) → Stores slots replaced used heads links → slots ≤ line
    → line - slots < used → slot ≡ get_or replaced (line - slots) slot
    → (other : ℕ) → other < slots → line_by (stored_table slots replaced used) other ≡ line → other ≡ slot
spare-only slots replaced used heads links line slot stores behind h e other w same =
    only_given (stored_table slots replaced used) line behind other w same ∙ sym (spare-slot slots replaced used heads links (line - slots) slot stores h e)

pub stored_table-retired : (slots : ℕ) (replaced : List ℕ) (used slot : ℕ) → used < length replaced
    → stored_table slots (set replaced used slot) (used + 1) ≡ retired_table (stored_table slots replaced used) slot
stored_table-retired slots replaced used slot h = rw (length-set, take_more_set replaced used slot h) refl

newest-retired : (replaced heads : List ℕ) (used slot : ℕ) → used < length replaced → length heads ≡ 256 → slot % 256 < 256
    → ((chain : ℕ) → chain < 256 → slice_index heads chain ≡ newest_of (take used replaced) chain)
    → (chain : ℕ) → chain < 256 → slice_index (set heads (slot % 256) (used + 1)) chain ≡ newest_of (take (used + 1) (set replaced used slot)) chain
newest-retired replaced heads used slot left size low before chain below =
    let more : newest_of (take (used + 1) (set replaced used slot)) chain ≡ (if chain_of slot == chain then 1 + length (take used replaced) else newest_of (take used replaced) chain)
    = ap (λ xs. newest_of xs chain) (take_more_set replaced used slot left) ∙ newest_of-more (take used replaced) slot chain in
    elim (cases_eq (slot % 256) chain) [
      | inl here ↦
          let test : (chain_of slot == chain) ≡ true = grind (arith, nat_tests) in
          subst (λ c. slice_index (set heads (slot % 256) (used + 1)) c ≡ used + 1) here (get_or-set_same heads (slot % 256) (used + 1) 0 (omega (arith, low, size)))
          ∙ sym (more ∙ ap (λ b. if b then 1 + length (take used replaced) else newest_of (take used replaced) chain) test ∙ omega (arith, length-take-le used replaced (omega (arith, left))))
      | inr apart ↦
          let test : (chain_of slot == chain) ≡ false = grind (arith, nat_tests) in
          get_or-set_other heads (slot % 256) chain (used + 1) 0 (λ e. apart (sym e)) ∙ before chain below
          ∙ sym (more ∙ ap (λ b. if b then 1 + length (take used replaced) else newest_of (take used replaced) chain) test)
    ]

before-retired : (replaced links : List ℕ) (used slot head : ℕ) → used < length replaced → length links ≡ length replaced → head ≡ newest_of (take used replaced) (chain_of slot)
    → ((spare : ℕ) → spare < used → slice_index links spare ≡ newest_of (take spare replaced) (chain_of (slice_index replaced spare)))
    → (spare : ℕ) → spare < used + 1 → slice_index (set links used head) spare ≡ newest_of (take spare (set replaced used slot)) (chain_of (slice_index (set replaced used slot) spare))
before-retired replaced links used slot head left linked head_is before spare below =
    let kept : take spare (set replaced used slot) ≡ take spare replaced = take-set-le spare replaced used slot (omega (arith, below)) in
    elim (cases_eq used spare) [
      | inl last ↦
          subst (λ n. slice_index (set links used head) n ≡ newest_of (take n (set replaced used slot)) (chain_of (slice_index (set replaced used slot) n))) last
          (
          get_or-set_same links used head 0 (omega (arith, left, linked)) ∙ head_is
          ∙ sym (
          ap (λ xs. newest_of xs (chain_of (slice_index (set replaced used slot) used))) (take-set-le used replaced used slot (omega arith))
          ∙ ap (λ n. newest_of (take used replaced) (chain_of n)) (get_or-set_same replaced used slot 0 left)
          )
          )
      | inr apart ↦
          get_or-set_other links used spare head 0 (λ e. apart (sym e)) ∙ before spare (omega (arith, below, apart))
          ∙ sym (
          ap (λ xs. newest_of xs (chain_of (slice_index (set replaced used slot) spare))) kept
          ∙ ap (λ n. newest_of (take spare replaced) (chain_of n)) (get_or-set_other replaced used spare slot 0 (λ e. apart (sym e)))
          )
    ]

pub stores-retired : (slots : ℕ) (replaced : List ℕ) (used : ℕ) (heads links : List ℕ) (slot head : ℕ) → Stores slots replaced used heads links → slot < slots → used < length replaced
    → slot % 256 < 256 → head ≡ get_or heads (slot % 256) head
    → Stores slots (set replaced used slot) (used + 1) (set heads (slot % 256) (used + 1)) (set links used head)
stores-retired slots replaced used heads links slot head stores h left low e =
    let table : Table = stored_table slots replaced used in
    let head_is : head ≡ newest_of (take used replaced) (chain_of slot)
    = e ∙ get_or_default_zero heads (slot % 256) head (omega (arith, low, stores.chains)) ∙ stores.newest (slot % 256) low in
    record {
      table = rw (stored_table-retired slots replaced used slot left) (IsTable-retired table slot stores.table h (rw (length-take-le used replaced stores.within) left));
      within = rw length-set (omega (arith, left));
      chains = length-set heads (slot % 256) (used + 1) ∙ stores.chains;
      linked = length-set links used head ∙ stores.linked ∙ sym (length-set replaced used slot);
      newest = newest-retired replaced heads used slot left stores.chains low stores.newest;
      before = before-retired replaced links used slot head left stores.linked head_is stores.before;
    }

pub lines-retired : (slots : ℕ) (replaced : List ℕ) (used slot : ℕ) → used < length replaced
    → (other : ℕ) → line_by (stored_table slots (set replaced used slot) (used + 1)) other
    ≡ (if slot == other then slots + used_by (stored_table slots replaced used) else line_by (stored_table slots replaced used) other)
lines-retired slots replaced used slot left other =
    ap (λ (t : Table). line_by t other) (stored_table-retired slots replaced used slot left) ∙ line_by-retired (stored_table slots replaced used) slot other
