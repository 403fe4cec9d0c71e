-- Numbers of lines by blocks, and pages by such numbers.
use Rattle.std.proofs.Common.{◌≡◌, ◌≢◌, ℕ, zero, suc, ◌+◌, ◌*◌, ◌/◌, ◌%◌, ◌^◌, ◌<◌, ◌≤◌, List, [], ◌∷◌, ◌++◌, length, map, replicate, get_or, set, refl, sym, ◌∙◌, ap, subst, inl, inr, arith, slice_index, length-set, get_or-set_same, get_or-set_other, length-append, Option, Some, None, not, eqb, true}
use Rattle.std.{specs.List.sum_by, specs.Prelude.{All, IsSome, MatchOption, is_some, option_to_list, slice_get}, proofs.Math.ListN.{get_or-append, get_or-map as read}}
use Rattle.std.proofs.{lemmas.Bool.{cases_eq, cases_lt}, lemmas.Bool.Decides.eqb_tells, lemmas.Grind.get_or_default_zero}
use Rattle.std.proofs.lemmas.List.{append-nil, ext_get_or, get_or_past, get_or_push, length-map, length-replicate, map-set, nil_from_length, set-get_or}
use Rattle.std.proofs.{lemmas.List.Folds.sum_by-replicate, lemmas.List.FromFn.{get_or-map-range_with_len, length-map-range_with_len}, lemmas.List.Sums.{sum_by-le, sum_by-set}}
use Rattle.std.proofs.lemmas.Option.{none-some, slice_get-get_or}
use Rattle.line_pages.specs.{PageTable.{page_at, page_of, pages_of}, Table.{AreBlocks, AreIdle, IsPaging, IsShelf, IsTable, block_lines, free, number_at, number_in, numbers_of}}

zero_at : (k n : ℕ) → slice_index (replicate k 0) n ≡ 0
zero_at zero zero = refl
zero_at zero (suc n) = refl
zero_at (suc k) zero = refl
zero_at (suc k) (suc n) = zero_at k n

-- ---- entries and what they name

-- at first no entry names a page
pub paging_blank : {X : Type 0} (table : List ℕ) (pages : List X) (capacity lines : ℕ) → table ≡ replicate lines 0
    → pages ≡ [] → lines < 2 ^ 32 → lines ≤ capacity → IsPaging table pages 0 capacity
paging_blank table pages capacity lines zeros none few room =
    let size : length table ≡ lines = ap length zeros ∙ length-replicate {A = ℕ} lines 0 in
    let empty : length pages ≡ 0 = ap length none in
    let blank : (n : ℕ) → slice_index table n ≡ 0 = λ n. ap (λ xs. slice_index xs n) zeros ∙ zero_at lines n in
    let all_free : sum_by free table ≡ lines * 1 = ap (sum_by free) zeros ∙ sum_by-replicate free lines 0 in
    record {
      few = omega (arith, size, few);
      made = λ l. omega (arith, blank l);
      apart = λ k l e some. absurd (some (blank k));
      all = omega (arith, size, empty, all_free);
      most = omega (arith, empty);
      room = omega (arith, size, room);
    }

-- where one names none, there are fewer pages than entries
pub paging_room : {X : Type 0} (table : List ℕ) (pages : List X) (capacity line : ℕ) → IsPaging table pages 0 capacity → line < length table
    → slice_index table line ≡ 0 → length pages < length table
paging_room table pages capacity line paging within none =
    let one : free (slice_index table line) ≡ 1 = ap free none in
    omega (arith, sum_by-set free table line 1 0 within, one, paging.all)

free-more : (n : ℕ) → free (n + 1) ≡ 0
free-more n = let e : n + 1 ≡ suc n = omega arith in ap free e

-- and one more may be made for it
pub paging_more : {X : Type 0} (table : List ℕ) (pages : List X) (page : X) (capacity line : ℕ) → IsPaging table pages 0 capacity
    → line < length table → slice_index table line ≡ 0 → IsPaging (set table line (length pages + 1)) (pages ++ page ∷ []) 0 capacity
paging_more table pages page capacity line paging within none =
    let more : length (pages ++ page ∷ []) ≡ length pages + 1 = length-append pages (page ∷ []) in
    let same : length (set table line (length pages + 1)) ≡ length table = length-set table line (length pages + 1) in
    let here : slice_index (set table line (length pages + 1)) line ≡ length pages + 1 = get_or-set_same table line (length pages + 1) 0 within in
    let others : (n : ℕ) → n ≢ line → slice_index (set table line (length pages + 1)) n ≡ slice_index table n = λ n apart. get_or-set_other table line n (length pages + 1) 0 apart in
    let one : free (slice_index table line) ≡ 1 = ap free none in
    let gone : free (length pages + 1) ≡ 0 = free-more (length pages) in
    record {
      few = omega (arith, same, paging.few);
      made = λ l.
          elim (cases_eq l line) [
            | inl is ↦ rw is (omega (arith, here, more))
            | inr apart ↦ omega (arith, others l apart, paging.made l, more)
          ];
      apart = λ k l e some.
          elim (cases_eq k line) [
            | inl k_is ↦
                elim (cases_eq l line) [
                  | inl l_is ↦ k_is ∙ sym l_is
                  | inr apart ↦ absurd (omega (arith, ap (slice_index (set table line (length pages + 1))) k_is, here, e, others l apart, paging.made l))
                ]
            | inr k_apart ↦
                elim (cases_eq l line) [
                  | inl l_is ↦ absurd (omega (arith, ap (slice_index (set table line (length pages + 1))) l_is, here, e, others k k_apart, paging.made k))
                  | inr apart ↦ paging.apart k l (sym (others k k_apart) ∙ e ∙ others l apart) (λ no. some (others k k_apart ∙ no))
                ]
          ];
      all = omega (arith, sum_by-set free table line (length pages + 1) 0 within, one, gone, paging.all, more, same);
      most = omega (arith, paging_room table pages capacity line paging within none, more, same);
      room = omega (arith, paging.room, same);
    }

-- a page may be written
pub paging_kept : {X : Type 0} {idle : ℕ} (table : List ℕ) (old new : List X) (capacity : ℕ) → IsPaging table old idle capacity → length new ≡ length old
    → IsPaging table new idle capacity
paging_kept table old new capacity paging same = record {
  few = paging.few;
  made = λ l. omega (arith, paging.made l, same);
  apart = paging.apart;
  all = omega (arith, paging.all, same);
  most = omega (arith, paging.most, same);
  room = paging.room;
}

-- ---- idle pages

all-few : (xs : List ℕ) → All (λ n. free n ≤ 1) xs
all-few xs k d low = one (get_or xs k d)
  where
    one : (n : ℕ) → free n ≤ 1
    one zero = omega arith
    one (suc n) = omega arith

-- a page may become idle
pub paging_freed : {X : Type 0} (table : List ℕ) (pages : List X) (idle capacity line index : ℕ) → IsPaging table pages idle capacity
    → line < length table → slice_index table line ≡ index + 1 → IsPaging (set table line 0) pages (idle + 1) capacity
paging_freed table pages idle capacity line index paging within at =
    let same : length (set table line 0) ≡ length table = length-set table line 0 in
    let here : slice_index (set table line 0) line ≡ 0 = get_or-set_same table line 0 0 within in
    let others : (n : ℕ) → n ≢ line → slice_index (set table line 0) n ≡ slice_index table n = λ n apart. get_or-set_other table line n 0 0 apart in
    let gone : free (slice_index table line) ≡ 0 = ap free at ∙ free-more index in
    record {
      few = omega (arith, same, paging.few);
      made = λ l.
          elim (cases_eq l line) as (λ _. slice_index (set table line 0) l ≤ length pages) [
            | inl is ↦ rw is (omega (arith, here))
            | inr apart ↦ omega (arith, others l apart, paging.made l)
          ];
      apart = λ k l e some.
          elim (cases_eq k line) as (λ _. k ≡ l) [
            | inl is ↦ absurd (some (ap (slice_index (set table line 0)) is ∙ here))
            | inr k_apart ↦
                elim (cases_eq l line) as (λ _. k ≡ l) [
                  | inl is ↦ absurd (some (e ∙ ap (slice_index (set table line 0)) is ∙ here))
                  | inr apart ↦ paging.apart k l (sym (others k k_apart) ∙ e ∙ others l apart) (λ no. some (others k k_apart ∙ no))
                ]
          ];
      all = omega (arith, sum_by-set free table line 0 0 within, gone, paging.all, same);
      most = omega (arith, same, paging.most);
      room = omega (arith, paging.room, same);
    }

-- and there is room for it
pub idle_room : {X : Type 0} (table : List ℕ) (pages : List X) (idle capacity line index : ℕ) → IsPaging table pages idle capacity
    → line < length table → slice_index table line ≡ index + 1 → idle < length table
idle_room table pages idle capacity line index paging within at =
    let freed = paging_freed table pages idle capacity line index paging within at in
    let same : length (set table line 0) ≡ length table = length-set table line 0 in
    let few = sum_by-le free 1 (set table line 0) (all-few (set table line 0)) in
    omega (arith, few, freed.all, freed.most, same)

-- an idle page may be given to a line
pub paging_reused : {X : Type 0} (table rest : List ℕ) (pages : List X) (page : X) (capacity line index : ℕ)
    → IsPaging table pages (length (rest ++ index ∷ [])) capacity → AreIdle table (rest ++ index ∷ []) (length pages) → line < length table
    → slice_index table line ≡ 0 → IsPaging (set table line (index + 1)) (set pages index page) (length rest) capacity
paging_reused table rest pages page capacity line index paging idle within none =
    let more : length (rest ++ index ∷ []) ≡ length rest + 1 = length-append rest (index ∷ []) in
    let last : slice_index (rest ++ index ∷ []) (length rest) ≡ index = get_or_push rest index 0 (length rest) refl in
    let place : length rest < length (rest ++ index ∷ []) = omega (arith, more) in
    let same : length (set table line (index + 1)) ≡ length table = length-set table line (index + 1) in
    let kept : length (set pages index page) ≡ length pages = length-set pages index page in
    let here : slice_index (set table line (index + 1)) line ≡ index + 1 = get_or-set_same table line (index + 1) 0 within in
    let others : (n : ℕ) → n ≢ line → slice_index (set table line (index + 1)) n ≡ slice_index table n = λ n apart. get_or-set_other table line n (index + 1) 0 apart in
    let one : free (slice_index table line) ≡ 1 = ap free none in
    let unnamed : (n : ℕ) → slice_index table n ≢ index + 1 = λ n e. idle.unnamed n (length rest) place (e ∙ omega (arith, last)) in
    record {
      few = omega (arith, same, paging.few);
      made = λ l.
          elim (cases_eq l line) as (λ _. slice_index (set table line (index + 1)) l ≤ length (set pages index page)) [
            | inl is ↦ rw is (omega (arith, here, kept, idle.made (length rest) place, last))
            | inr apart ↦ omega (arith, others l apart, paging.made l, kept)
          ];
      apart = λ k l e some.
          elim (cases_eq k line) as (λ _. k ≡ l) [
            | inl k_is ↦
                elim (cases_eq l line) as (λ _. k ≡ l) [
                  | inl l_is ↦ k_is ∙ sym l_is
                  | inr apart ↦ absurd (unnamed l (sym (others l apart) ∙ sym e ∙ ap (slice_index (set table line (index + 1))) k_is ∙ here))
                ]
            | inr k_apart ↦
                elim (cases_eq l line) as (λ _. k ≡ l) [
                  | inl l_is ↦ absurd (unnamed k (sym (others k k_apart) ∙ e ∙ ap (slice_index (set table line (index + 1))) l_is ∙ here))
                  | inr apart ↦ paging.apart k l (sym (others k k_apart) ∙ e ∙ others l apart) (λ no. some (others k k_apart ∙ no))
                ]
          ];
      all = omega (arith, sum_by-set free table line (index + 1) 0 within, one, free-more index, paging.all, more, same, kept);
      most = omega (arith, paging.most, same, kept);
      room = omega (arith, paging.room, same);
    }

pub idle_none : (table : List ℕ) (pages : ℕ) → AreIdle table [] pages
idle_none table pages = record { made = λ k low. absurd (omega (arith, low)); apart = λ k l low. absurd (omega (arith, low)); unnamed = λ line k low. absurd (omega (arith, low)) }

pub idle_reused : (table rest : List ℕ) (pages line index : ℕ) → AreIdle table (rest ++ index ∷ []) pages → AreIdle (set table line (index + 1)) rest pages
idle_reused table rest pages line index idle = record {
  made = λ k low. let was = idle.made k (behind k low) in omega (arith, was, same k low);
  apart = λ k l low low_l e. idle.apart k l (behind k low) (behind l low_l) (same k low ∙ e ∙ sym (same l low_l));
  unnamed = λ n k low e.
      elim (cases_eq n line) as (λ _. ⊥) [
        | inl here ↦ own k low (sym (ap (slice_index (set table line (index + 1))) here) ∙ e)
        | inr apart ↦ idle.unnamed n k (behind k low) (sym (get_or-set_other table line n (index + 1) 0 apart) ∙ e ∙ omega (arith, same k low))
      ];
}
  where
    more : length (rest ++ index ∷ []) ≡ length rest + 1
    more = length-append rest (index ∷ [])

    behind : (k : ℕ) → k < length rest → k < length (rest ++ index ∷ [])
    behind k low = omega (arith, low, more)

    same : (k : ℕ) → k < length rest → slice_index (rest ++ index ∷ []) k ≡ slice_index rest k
    same k low = get_or-append rest (index ∷ []) 0 k low

    last : slice_index (rest ++ index ∷ []) (length rest) ≡ index
    last = get_or_push rest index 0 (length rest) refl

    -- the line's new page is idle no more
    own : (k : ℕ) → k < length rest → slice_index (set table line (index + 1)) line ≡ slice_index rest k + 1 → ⊥
    own k low e =
        elim (cases_lt line (length table)) as (λ _. ⊥) [
          | inl within ↦
              let is : index ≡ slice_index rest k = omega (arith, e, get_or-set_same table line (index + 1) 0 within) in
              let twice : k ≡ length rest = idle.apart k (length rest) (behind k low) (omega (arith, more)) (same k low ∙ sym is ∙ sym last) in
              omega (arith, twice, low)
          | inr past ↦
              let none : slice_index (set table line (index + 1)) line ≡ 0 = get_or_past (set table line (index + 1)) line 0 (omega (arith, past, length-set table line (index + 1))) in
              omega (arith, none, e)
        ]

pub idle_freed : {X : Type 0} (table idle : List ℕ) (pages : List X) (capacity line index : ℕ) → IsPaging table pages (length idle) capacity
    → AreIdle table idle (length pages) → line < length table → slice_index table line ≡ index + 1 → AreIdle (set table line 0) (idle ++ index ∷ []) (length pages)
idle_freed table idle pages capacity line index paging are within at = record {
  made = λ k low.
      elim (cases_eq k (length idle)) as (λ _. slice_index (idle ++ index ∷ []) k < length pages) [
        | inl is ↦ rw is (omega (arith, last, at, paging.made line))
        | inr apart ↦ let was = are.made k (before k low apart) in omega (arith, was, same k (before k low apart))
      ];
  apart = λ k l low low_l e.
      elim (cases_eq k (length idle)) as (λ _. k ≡ l) [
        | inl k_is ↦
            elim (cases_eq l (length idle)) as (λ _. k ≡ l) [
              | inl l_is ↦ k_is ∙ sym l_is
              | inr apart ↦
                  absurd (are.unnamed line l (before l low_l apart) (at ∙ omega (arith, last, sym (ap (slice_index (idle ++ index ∷ [])) k_is), e, same l (before l low_l apart))))
            ]
        | inr k_apart ↦
            elim (cases_eq l (length idle)) as (λ _. k ≡ l) [
              | inl l_is ↦
                  absurd (are.unnamed line k (before k low k_apart) (at ∙ omega (arith, last, sym (ap (slice_index (idle ++ index ∷ [])) l_is), e, same k (before k low k_apart))))
              | inr apart ↦ are.apart k l (before k low k_apart) (before l low_l apart) (sym (same k (before k low k_apart)) ∙ e ∙ same l (before l low_l apart))
            ]
      ];
  unnamed = λ n k low e.
      elim (cases_eq n line) as (λ _. ⊥) [
        | inl here ↦ absurd (omega (arith, sym (ap (slice_index (set table line 0)) here), get_or-set_same table line 0 0 within, e))
        | inr apart ↦
            let kept : slice_index (set table line 0) n ≡ slice_index table n = get_or-set_other table line n 0 0 apart in
            elim (cases_eq k (length idle)) as (λ _. ⊥) [
              | inl is ↦
                  let own : slice_index table n ≡ index + 1 = sym kept ∙ e ∙ omega (arith, ap (slice_index (idle ++ index ∷ [])) is, last) in
                  apart (paging.apart n line (own ∙ sym at) (λ none. absurd (omega (arith, none, own))))
              | inr k_apart ↦ are.unnamed n k (before k low k_apart) (sym kept ∙ e ∙ omega (arith, same k (before k low k_apart)))
            ]
      ];
}
  where
    more : length (idle ++ index ∷ []) ≡ length idle + 1
    more = length-append idle (index ∷ [])

    before : (k : ℕ) → k < length (idle ++ index ∷ []) → k ≢ length idle → k < length idle
    before k low apart = elim (cases_lt k (length idle)) as (λ _. k < length idle) [ inl less ↦ less | inr high ↦ absurd (apart (omega (arith, low, more, high))) ]

    same : (k : ℕ) → k < length idle → slice_index (idle ++ index ∷ []) k ≡ slice_index idle k
    same k low = get_or-append idle (index ∷ []) 0 k low

    last : slice_index (idle ++ index ∷ []) (length idle) ≡ index
    last = get_or_push idle index 0 (length idle) refl

-- the one that is idle last, if any is
pub idle_last : (table rest : List ℕ) (pages index : ℕ) → AreIdle table (rest ++ index ∷ []) pages → (index < pages) × ((n : ℕ) → slice_index table n ≢ index + 1)
idle_last table rest pages index idle =
    let last : slice_index (rest ++ index ∷ []) (length rest) ≡ index = get_or_push rest index 0 (length rest) refl in
    let place : length rest < length (rest ++ index ∷ []) = omega (arith, length-append rest (index ∷ [])) in
    (omega (arith, idle.made (length rest) place, last), λ n e. idle.unnamed n (length rest) place (e ∙ omega (arith, last)))

pub popped-none : (result : Option ℕ) (old new : List ℕ) (size left : ℕ) → MatchOption result ((size ≡ 0) × (left ≡ 0)) (λ x. left + 1 ≡ size) → old ≡ new ++ option_to_list result
    → size ≡ length old → result ≡ None → (old ≡ []) × (new ≡ [])
popped-none None old new size left cases is len none =
    let empty : old ≡ [] = nil_from_length old (sym len ∙ cases.0) in
    (empty, sym (append-nil new) ∙ sym is ∙ empty)
popped-none (Some index) old new size left cases is len none = absurd (none-some index (sym none))

pub popped-some : (result : Option ℕ) (old new : List ℕ) (index : ℕ) → old ≡ new ++ option_to_list result → result ≡ Some index → old ≡ new ++ index ∷ []
popped-some result old new index is some = is ∙ ap (λ (o : Option ℕ). new ++ option_to_list o) some

-- ---- pages that lines have, and idle ones

pub shelf_blank : {X : Type 0} (table idle : List ℕ) (pages : List X) (capacity free_capacity lines : ℕ) → table ≡ replicate lines 0 → idle ≡ []
    → pages ≡ [] → lines < 2 ^ 32 → lines ≤ capacity → lines ≤ free_capacity → IsShelf table idle pages capacity free_capacity
shelf_blank table idle pages capacity free_capacity lines zeros no_idle none few room idle_fits =
    rw no_idle (record {
      paging = paging_blank table pages capacity lines zeros none few room;
      unused = idle_none table (length pages);
      room = omega (arith, ap length zeros, length-replicate {A = ℕ} lines 0, idle_fits);
    })

pub shelf_kept : {X : Type 0} (table idle : List ℕ) (old new : List X) (capacity free_capacity : ℕ) → IsShelf table idle old capacity free_capacity
    → length new ≡ length old → IsShelf table idle new capacity free_capacity
shelf_kept table idle old new capacity free_capacity shelf same = record {
  paging = paging_kept table old new capacity shelf.paging same;
  unused = subst (AreIdle table idle) (sym same) shelf.unused;
  room = shelf.room;
}

pub shelf_more : {X : Type 0} (table old new : List ℕ) (pages : List X) (page : X) (capacity free_capacity line : ℕ) → IsShelf table old pages capacity free_capacity
    → old ≡ [] → new ≡ [] → line < length table → slice_index table line ≡ 0 → IsShelf (set table line (length pages + 1)) new (pages ++ page ∷ []) capacity free_capacity
shelf_more table old new pages page capacity free_capacity line shelf no_old no_new within none =
    let whole = subst (λ (xs : List ℕ). IsShelf table xs pages capacity free_capacity) no_old shelf in
    rw no_new (record {
      paging = paging_more table pages page capacity line whole.paging within none;
      unused = idle_none (set table line (length pages + 1)) (length (pages ++ page ∷ []));
      room = omega (arith, length-set table line (length pages + 1), shelf.room);
    })

pub shelf_reused : {X : Type 0} (table old rest : List ℕ) (pages : List X) (page : X) (capacity free_capacity line index : ℕ) → IsShelf table old pages capacity free_capacity
    → old ≡ rest ++ index ∷ [] → line < length table → slice_index table line ≡ 0 → IsShelf (set table line (index + 1)) rest (set pages index page) capacity free_capacity
shelf_reused table old rest pages page capacity free_capacity line index shelf is within none =
    let whole = subst (λ (xs : List ℕ). IsShelf table xs pages capacity free_capacity) is shelf in
    record {
      paging = paging_reused table rest pages page capacity line index whole.paging whole.unused within none;
      unused = subst (AreIdle (set table line (index + 1)) rest) (sym (length-set pages index page)) (idle_reused table rest (length pages) line index whole.unused);
      room = omega (arith, length-set table line (index + 1), shelf.room);
    }

pub shelf_freed : {X : Type 0} (table idle : List ℕ) (pages : List X) (capacity free_capacity line index : ℕ) → IsShelf table idle pages capacity free_capacity
    → line < length table → slice_index table line ≡ index + 1 → IsShelf (set table line 0) (idle ++ index ∷ []) pages capacity free_capacity
shelf_freed table idle pages capacity free_capacity line index shelf within at =
    let more : length (idle ++ index ∷ []) ≡ length idle + 1 = length-append idle (index ∷ []) in
    record {
      paging =
          subst (λ (k : ℕ). IsPaging (set table line 0) pages k capacity) (sym more) (paging_freed table pages (length idle) capacity line index shelf.paging within at);
      unused = idle_freed table idle pages capacity line index shelf.paging shelf.unused within at;
      room = omega (arith, length-set table line 0, shelf.room);
    }

-- what a list of entries says
pub told : (table : List ℕ) (line entry : ℕ) → line < length table → entry ≡ get_or table line entry → slice_index table line ≡ entry
told table line entry within is = sym (get_or_default_zero table line entry within) ∙ sym is

-- ---- numbers of lines by blocks

number_in-none : (numbers : List (List ℕ)) (entry place : ℕ) → entry ≡ 0 → number_in numbers entry place ≡ 0
unfolding number_in
number_in-none numbers entry place none = rw none refl

number_in-some : (numbers : List (List ℕ)) (entry index place : ℕ) → entry ≡ index + 1 → number_in numbers entry place ≡ slice_index (get_or numbers index []) place
unfolding number_in
number_in-some numbers entry index place is = let e : entry ≡ suc index = omega (arith, is) in ap (λ k. number_in numbers k place) e

-- the number of a line without numbers of its block, and with such
pub number-none : (blocks : List ℕ) (numbers : List (List ℕ)) (line : ℕ) → slice_index blocks (line / block_lines) ≡ 0 → number_at blocks numbers line ≡ 0
number-none blocks numbers line none = number_in-none numbers (slice_index blocks (line / block_lines)) (line % block_lines) none

pub number-some : (blocks : List ℕ) (numbers : List (List ℕ)) (line index : ℕ) → slice_index blocks (line / block_lines) ≡ index + 1
    → number_at blocks numbers line ≡ slice_index (get_or numbers index []) (line % block_lines)
number-some blocks numbers line index is = number_in-some numbers (slice_index blocks (line / block_lines)) index (line % block_lines) is

pub numbers-count : (blocks : List ℕ) (numbers : List (List ℕ)) (lines : ℕ) → length (numbers_of blocks numbers lines) ≡ lines
unfolding numbers_of
numbers-count blocks numbers lines = length-map-range_with_len (number_at blocks numbers) 0 lines

pub numbers-at : (blocks : List ℕ) (numbers : List (List ℕ)) (lines line : ℕ) → line < lines → slice_index (numbers_of blocks numbers lines) line ≡ number_at blocks numbers line
unfolding numbers_of
numbers-at blocks numbers lines line low = get_or-map-range_with_len (number_at blocks numbers) 0 lines line line 0 low (omega arith)

-- a line of the list has a block
pub covered : (blocks : List ℕ) (numbers : List (List ℕ)) (lines capacity line : ℕ) (now : List ℕ) → IsTable blocks numbers lines capacity
    → numbers_of blocks numbers lines ≡ now → line < length now → (line < lines) × (line / block_lines < length blocks)
covered blocks numbers lines capacity line now table is low =
    let within : line < lines = omega (arith, low, ap length is, numbers-count blocks numbers lines) in
    (within, omega (arith, within, table.covered))

-- lists of numbers are equal that say the same of each line
pub numbers-same : (blocks blocks_new : List ℕ) (numbers numbers_new : List (List ℕ)) (lines : ℕ)
    → ((line : ℕ) → number_at blocks_new numbers_new line ≡ number_at blocks numbers line) → numbers_of blocks_new numbers_new lines ≡ numbers_of blocks numbers lines
numbers-same blocks blocks_new numbers numbers_new lines same =
    ext_get_or 0 (numbers_of blocks_new numbers_new lines) (numbers_of blocks numbers lines) (numbers-count blocks_new numbers_new lines ∙ sym (numbers-count blocks numbers lines))
    (λ line low.
    let within : line < lines = omega (arith, low, numbers-count blocks_new numbers_new lines) in
    numbers-at blocks_new numbers_new lines line within ∙ same line ∙ sym (numbers-at blocks numbers lines line within))

-- at first each is 0
pub numbers-blank : (blocks : List ℕ) (numbers : List (List ℕ)) (count lines : ℕ) → blocks ≡ replicate count 0 → numbers_of blocks numbers lines ≡ replicate lines 0
numbers-blank blocks numbers count lines zeros =
    ext_get_or 0 (numbers_of blocks numbers lines) (replicate lines 0) (numbers-count blocks numbers lines ∙ sym (length-replicate {A = ℕ} lines 0))
    (λ line low.
    let within : line < lines = omega (arith, low, numbers-count blocks numbers lines) in
    numbers-at blocks numbers lines line within
    ∙ number-none blocks numbers line (ap (λ xs. slice_index xs (line / block_lines)) zeros ∙ zero_at count (line / block_lines))
    ∙ sym (zero_at lines line))

pub blocks-blank : (blocks : List ℕ) (numbers : List (List ℕ)) (count capacity : ℕ) → blocks ≡ replicate count 0 → numbers ≡ [] → count < 2 ^ 32 → count ≤ capacity
    → AreBlocks blocks numbers capacity
blocks-blank blocks numbers count capacity zeros none few room = record {
  paging = paging_blank blocks numbers capacity count zeros none few room;
  whole = λ index low. absurd (omega (arith, low, ap length none));
}

-- a block gets numbers
pub blocks-more : (blocks : List ℕ) (numbers : List (List ℕ)) (zeros : List ℕ) (capacity block : ℕ) → AreBlocks blocks numbers capacity → block < length blocks
    → slice_index blocks block ≡ 0 → length zeros ≡ block_lines → AreBlocks (set blocks block (length numbers + 1)) (numbers ++ zeros ∷ []) capacity
blocks-more blocks numbers zeros capacity block are within none size = record {
  paging = paging_more blocks numbers zeros capacity block are.paging within none;
  whole = λ index low.
      elim (cases_lt index (length numbers)) as (λ _. length (get_or (numbers ++ zeros ∷ []) index []) ≡ block_lines) [
        | inl here ↦ ap length (get_or-append numbers (zeros ∷ []) [] index here) ∙ are.whole index here
        | inr past ↦
            let last : length numbers ≡ index = omega (arith, past, low, length-append numbers (zeros ∷ [])) in
            ap length (get_or_push numbers zeros [] index last) ∙ size
      ];
}

-- and no number changes
pub more-same : (blocks : List ℕ) (numbers : List (List ℕ)) (zeros : List ℕ) (capacity block line : ℕ) → AreBlocks blocks numbers capacity → block < length blocks
    → slice_index blocks block ≡ 0 → zeros ≡ replicate block_lines 0
    → number_at (set blocks block (length numbers + 1)) (numbers ++ zeros ∷ []) line ≡ number_at blocks numbers line
unfolding number_in
more-same blocks numbers zeros capacity block line are within none zero_row =
    elim (cases_eq (line / block_lines) block) as (λ _. number_at (set blocks block (length numbers + 1)) (numbers ++ zeros ∷ []) line ≡ number_at blocks numbers line) [
      | inl here ↦
          number-some (set blocks block (length numbers + 1)) (numbers ++ zeros ∷ []) line (length numbers)
          (ap (slice_index (set blocks block (length numbers + 1))) here ∙ get_or-set_same blocks block (length numbers + 1) 0 within)
          ∙ ap (λ xs. slice_index xs (line % block_lines)) (get_or_push numbers zeros [] (length numbers) refl ∙ zero_row)
          ∙ zero_at block_lines (line % block_lines)
          ∙ sym (number-none blocks numbers line (ap (slice_index blocks) here ∙ none))
      | inr apart ↦
          ap (λ k. number_in (numbers ++ zeros ∷ []) k (line % block_lines)) (get_or-set_other blocks block (line / block_lines) (length numbers + 1) 0 apart)
          ∙ longer (slice_index blocks (line / block_lines)) (are.paging.made (line / block_lines))
    ]
  where
    longer : (entry : ℕ) → entry ≤ length numbers → number_in (numbers ++ zeros ∷ []) entry (line % block_lines) ≡ number_in numbers entry (line % block_lines)
    longer zero few = refl
    longer (suc index) few = ap (λ xs. slice_index xs (line % block_lines)) (get_or-append numbers (zeros ∷ []) [] index (omega (arith, few)))

-- a number is written into the list of its block
pub blocks-written : (blocks : List ℕ) (numbers : List (List ℕ)) (row : List ℕ) (capacity index : ℕ) → AreBlocks blocks numbers capacity → length row ≡ block_lines
    → AreBlocks blocks (set numbers index row) capacity
blocks-written blocks numbers row capacity index are size = record {
  paging = paging_kept blocks numbers (set numbers index row) capacity are.paging (length-set numbers index row);
  whole = λ k low.
      let within : k < length numbers = omega (arith, low, length-set numbers index row) in
      elim (cases_eq k index) as (λ _. length (get_or (set numbers index row) k []) ≡ block_lines) [
        | inl here ↦ ap length (ap (λ i. get_or (set numbers index row) i []) here ∙ get_or-set_same numbers index row [] (omega (arith, within, here))) ∙ size
        | inr apart ↦ ap length (get_or-set_other numbers index k row [] apart) ∙ are.whole k within
      ];
}

pub numbers-written : (blocks : List ℕ) (numbers : List (List ℕ)) (row : List ℕ) (lines capacity line index number : ℕ) → AreBlocks blocks numbers capacity
    → line < lines → slice_index blocks (line / block_lines) ≡ index + 1 → row ≡ set (get_or numbers index []) (line % block_lines) number
    → numbers_of blocks (set numbers index row) lines ≡ set (numbers_of blocks numbers lines) line number
unfolding number_in
numbers-written blocks numbers row lines capacity line index number are within at is =
    ext_get_or 0 (numbers_of blocks (set numbers index row) lines) (set (numbers_of blocks numbers lines) line number)
    (numbers-count blocks (set numbers index row) lines ∙ sym (length-set (numbers_of blocks numbers lines) line number ∙ numbers-count blocks numbers lines))
    (λ n low. numbers-at blocks (set numbers index row) lines n (omega (arith, low, numbers-count blocks (set numbers index row) lines)) ∙ by n (omega (arith, low, numbers-count blocks (set numbers index row) lines)))
  where
    made : index < length numbers
    made = omega (arith, at, are.paging.made (line / block_lines))

    place : line % block_lines < length (get_or numbers index [])
    place = omega (arith, are.whole index made)

    own : get_or (set numbers index row) index [] ≡ set (get_or numbers index []) (line % block_lines) number
    own = get_or-set_same numbers index row [] made ∙ is

    -- another line of the same block, and one of another
    other : (n entry : ℕ) → n ≢ line → entry ≡ slice_index blocks (n / block_lines) → number_in (set numbers index row) entry (n % block_lines) ≡ number_in numbers entry (n % block_lines)
    other n zero apart e = refl
    other n (suc k) apart e =
        elim (cases_eq k index) as (λ _. slice_index (get_or (set numbers index row) k []) (n % block_lines) ≡ slice_index (get_or numbers k []) (n % block_lines)) [
          | inl same ↦
              let block : n / block_lines ≡ line / block_lines =
              are.paging.apart (n / block_lines) (line / block_lines) (omega (arith, e, at, same)) (λ none. absurd (omega (arith, e, none))) in
              let places : n % block_lines ≢ line % block_lines = λ p. apart (omega (arith, block, p)) in
              rw same (ap (λ xs. slice_index xs (n % block_lines)) own ∙ get_or-set_other (get_or numbers index []) (line % block_lines) (n % block_lines) number 0 places)
          | inr k_apart ↦ ap (λ xs. slice_index xs (n % block_lines)) (get_or-set_other numbers index k row [] k_apart)
        ]

    by : (n : ℕ) → n < lines → number_at blocks (set numbers index row) n ≡ get_or (set (numbers_of blocks numbers lines) line number) n 0
    by n low =
        elim (cases_eq n line) as (λ _. number_at blocks (set numbers index row) n ≡ get_or (set (numbers_of blocks numbers lines) line number) n 0) [
          | inl here ↦
              rw here (number-some blocks (set numbers index row) line index at
              ∙ ap (λ xs. slice_index xs (line % block_lines)) own
              ∙ get_or-set_same (get_or numbers index []) (line % block_lines) number 0 place
              ∙ sym (get_or-set_same (numbers_of blocks numbers lines) line number 0 (omega (arith, within, numbers-count blocks numbers lines))))
          | inr apart ↦
              other n (slice_index blocks (n / block_lines)) apart refl
              ∙ sym (get_or-set_other (numbers_of blocks numbers lines) line n number 0 apart ∙ numbers-at blocks numbers lines n low)
        ]

-- ---- pages of lines

module _ {X : Type 0} where
  page_of-none : (pages : List X) (entry : ℕ) → entry ≡ 0 → page_of pages entry ≡ None
  unfolding page_of
  page_of-none pages entry none = rw none refl

  page_of-some : (pages : List X) (entry index : ℕ) → entry ≡ index + 1 → page_of pages entry ≡ slice_get pages index
  unfolding page_of
  page_of-some pages entry index is = let e : entry ≡ suc index = omega (arith, is) in ap (page_of pages) e

  pub pages-count : (pages : List X) (table : List ℕ) → length (pages_of pages table) ≡ length table
  unfolding pages_of
  pages-count pages table = length-map table (page_of pages)

  -- the page of a line is the one that its entry names
  pages-at : (pages : List X) (table : List ℕ) (line : ℕ) → page_at (pages_of pages table) line ≡ page_of pages (slice_index table line)
  unfolding pages_of
  pages-at pages table line =
      ap (get_or (map (page_of pages) table) line) (sym (page_of-none pages 0 refl)) ∙ read (page_of pages) table line 0

  pub pages-none : (pages : List X) (table : List ℕ) (line : ℕ) → slice_index table line ≡ 0 → page_at (pages_of pages table) line ≡ None
  pages-none pages table line none = pages-at pages table line ∙ page_of-none pages (slice_index table line) none

  pub pages-some : {idle : ℕ} (pages : List X) (table : List ℕ) (capacity line index : ℕ) (page : X) → IsPaging table pages idle capacity → slice_index table line ≡ index + 1
      → page ≡ get_or pages index page → page_at (pages_of pages table) line ≡ Some page
  pages-some pages table capacity line index page paging at is =
      pages-at pages table line ∙ page_of-some pages (slice_index table line) index at
      ∙ slice_get-get_or pages index page (omega (arith, at, paging.made line)) ∙ ap Some (sym is)

  -- a line that has no page has entry 0
  gets : (pages : List X) (index : ℕ) → index < length pages → slice_get pages index ≡ None → ⊥
  gets [] index low none = omega arith
  gets (page ∷ pages) zero low none = none-some page (sym none)
  gets (page ∷ pages) (suc index) low none = gets pages index (omega (arith, low)) none

  pub none-zero : {idle : ℕ} (pages : List X) (table : List ℕ) (capacity line : ℕ) → IsPaging table pages idle capacity → page_at (pages_of pages table) line ≡ None → slice_index table line ≡ 0
  unfolding page_of
  none-zero pages table capacity line paging none = by (slice_index table line) (paging.made line) (sym (pages-at pages table line) ∙ none)
    where
      by : (entry : ℕ) → entry ≤ length pages → page_of pages entry ≡ None → entry ≡ 0
      by zero few is = refl
      by (suc index) few is = absurd (gets pages index (omega (arith, few)) is)

  -- and one that has a page has another
  pub some-entry : (pages : List X) (table : List ℕ) (line : ℕ) → IsSome (page_at (pages_of pages table) line) → 0 < slice_index table line
  unfolding page_of
  some-entry pages table line some = by (slice_index table line) (subst IsSome (pages-at pages table line) some)
    where
      by : (entry : ℕ) → IsSome (page_of pages entry) → 0 < entry
      by zero is = absurd (cc is)
      by (suc index) is = omega arith

  pub has-is : {idle : ℕ} (pages : List X) (table : List ℕ) (capacity line : ℕ) → IsPaging table pages idle capacity
      → not (eqb (slice_index table line) 0) ≡ is_some (page_at (pages_of pages table) line)
  unfolding page_of
  has-is pages table capacity line paging = by (slice_index table line) (paging.made line) ∙ ap is_some (sym (pages-at pages table line))
    where
      by : (entry : ℕ) → entry ≤ length pages → not (eqb entry 0) ≡ is_some (page_of pages entry)
      by zero few = refl
      by (suc index) few = more ∙ sym (ap is_some (found pages index (omega (arith, few))).1)
        where
          more : not (eqb (suc index) 0) ≡ true
          more = elim (eqb_tells (suc index) 0) [
            | inl same ↦ absurd (omega (arith, same.1))
            | inr apart ↦ ap not apart.0
          ]

          found : (pages : List X) (index : ℕ) → index < length pages → (page : X) × (slice_get pages index ≡ Some page)
          found [] index low = absurd (omega arith)
          found (page ∷ pages) zero low = (page, refl)
          found (page ∷ pages) (suc index) low = found pages index (omega (arith, low))

  pub pages-blank : (pages : List X) (table : List ℕ) (lines : ℕ) → table ≡ replicate lines 0 → pages_of pages table ≡ replicate lines None
  unfolding pages_of page_of
  pages-blank pages table lines zeros = ap (pages_of pages) zeros ∙ by lines
    where
      by : (n : ℕ) → pages_of pages (replicate n 0) ≡ replicate n None
      by zero = refl
      by (suc n) = ap (◌∷◌ None) (by n)

  -- a line gets a page
  pub pages-more : {idle : ℕ} (pages : List X) (table : List ℕ) (page : X) (capacity line : ℕ) → IsPaging table pages idle capacity
      → pages_of (pages ++ page ∷ []) (set table line (length pages + 1)) ≡ set (pages_of pages table) line (Some page)
  unfolding pages_of page_of
  pages-more pages table page capacity line paging =
      whole table
      ∙ ap (λ (o : Option X). set (pages_of (pages ++ page ∷ []) table) line o) own
      ∙ ap (λ xs. set xs line (Some page)) same
    where
      whole : (table : List ℕ) → pages_of (pages ++ page ∷ []) (set table line (length pages + 1)) ≡ set (pages_of (pages ++ page ∷ []) table) line (page_of (pages ++ page ∷ []) (length pages + 1))
      whole table = map-set (page_of (pages ++ page ∷ [])) table line (length pages + 1)

      own : page_of (pages ++ page ∷ []) (length pages + 1) ≡ Some page
      own =
          page_of-some (pages ++ page ∷ []) (length pages + 1) (length pages) refl
          ∙ slice_get-get_or (pages ++ page ∷ []) (length pages) page (omega (arith, length-append pages (page ∷ [])))
          ∙ ap Some (get_or_push pages page page (length pages) refl)

      longer : (entry : ℕ) → entry ≤ length pages → page_of (pages ++ page ∷ []) entry ≡ page_of pages entry
      longer zero few = refl
      longer (suc index) few =
          slice_get-get_or (pages ++ page ∷ []) index page (omega (arith, few, length-append pages (page ∷ [])))
          ∙ ap Some (get_or-append pages (page ∷ []) page index (omega (arith, few)))
          ∙ sym (slice_get-get_or pages index page (omega (arith, few)))

      same : pages_of (pages ++ page ∷ []) table ≡ pages_of pages table
      same =
          ext_get_or None (pages_of (pages ++ page ∷ []) table) (pages_of pages table) (pages-count (pages ++ page ∷ []) table ∙ sym (pages-count pages table))
          (λ n low. pages-at (pages ++ page ∷ []) table n ∙ longer (slice_index table n) (paging.made n) ∙ sym (pages-at pages table n))

  -- a page is written
  pub pages-written : {idle : ℕ} (pages : List X) (table : List ℕ) (page : X) (capacity line index : ℕ) → IsPaging table pages idle capacity → slice_index table line ≡ index + 1
      → line < length table → pages_of (set pages index page) table ≡ set (pages_of pages table) line (Some page)
  unfolding page_of
  pages-written pages table page capacity line index paging at within =
      ext_get_or None (pages_of (set pages index page) table) (set (pages_of pages table) line (Some page))
      (pages-count (set pages index page) table ∙ sym (length-set (pages_of pages table) line (Some page) ∙ pages-count pages table))
      (λ n low. pages-at (set pages index page) table n ∙ by n)
    where
      made : index < length pages
      made = omega (arith, at, paging.made line)

      other : (n entry : ℕ) → n ≢ line → entry ≡ slice_index table n → page_of (set pages index page) entry ≡ page_of pages entry
      other n zero apart e = refl
      other n (suc k) apart e =
          let k_apart : k ≢ index = λ same. apart (paging.apart n line (omega (arith, e, at, same)) (λ none. absurd (omega (arith, e, none)))) in
          let low : k < length pages = omega (arith, e, paging.made n) in
          slice_get-get_or (set pages index page) k page (omega (arith, low, length-set pages index page))
          ∙ ap Some (get_or-set_other pages index k page page k_apart)
          ∙ sym (slice_get-get_or pages k page low)

      by : (n : ℕ) → page_of (set pages index page) (slice_index table n) ≡ page_at (set (pages_of pages table) line (Some page)) n
      by n =
          elim (cases_eq n line) as (λ _. page_of (set pages index page) (slice_index table n) ≡ page_at (set (pages_of pages table) line (Some page)) n) [
            | inl here ↦
                rw here (page_of-some (set pages index page) (slice_index table line) index at
                ∙ slice_get-get_or (set pages index page) index page (omega (arith, made, length-set pages index page))
                ∙ ap Some (get_or-set_same pages index page page made)
                ∙ sym (get_or-set_same (pages_of pages table) line (Some page) None (omega (arith, within, pages-count pages table))))
            | inr apart ↦
                other n (slice_index table n) apart refl
                ∙ sym (get_or-set_other (pages_of pages table) line n (Some page) None apart ∙ pages-at pages table n)
          ]

  -- an idle page is given to a line
  pub pages-reused : {idle : ℕ} (pages : List X) (table : List ℕ) (page : X) (capacity line index : ℕ) → IsPaging table pages idle capacity → index < length pages
      → ((n : ℕ) → slice_index table n ≢ index + 1) → line < length table
      → pages_of (set pages index page) (set table line (index + 1)) ≡ set (pages_of pages table) line (Some page)
  unfolding page_of
  pages-reused pages table page capacity line index paging made unnamed within =
      ext_get_or None (pages_of (set pages index page) (set table line (index + 1))) (set (pages_of pages table) line (Some page))
      (pages-count (set pages index page) (set table line (index + 1)) ∙ length-set table line (index + 1) ∙ sym (length-set (pages_of pages table) line (Some page) ∙ pages-count pages table))
      (λ n low. pages-at (set pages index page) (set table line (index + 1)) n ∙ by n)
    where
      other : (entry : ℕ) → entry ≢ index + 1 → entry ≤ length pages → page_of (set pages index page) entry ≡ page_of pages entry
      other zero apart few = refl
      other (suc k) apart few =
          let k_apart : k ≢ index = λ same. apart (omega (arith, same)) in
          let low : k < length pages = omega (arith, few) in
          slice_get-get_or (set pages index page) k page (omega (arith, low, length-set pages index page))
          ∙ ap Some (get_or-set_other pages index k page page k_apart)
          ∙ sym (slice_get-get_or pages k page low)

      by : (n : ℕ) → page_of (set pages index page) (slice_index (set table line (index + 1)) n) ≡ page_at (set (pages_of pages table) line (Some page)) n
      by n =
          elim (cases_eq n line) as (λ _. page_of (set pages index page) (slice_index (set table line (index + 1)) n) ≡ page_at (set (pages_of pages table) line (Some page)) n) [
            | inl here ↦
                rw here (page_of-some (set pages index page) (slice_index (set table line (index + 1)) line) index (get_or-set_same table line (index + 1) 0 within)
                ∙ slice_get-get_or (set pages index page) index page (omega (arith, made, length-set pages index page))
                ∙ ap Some (get_or-set_same pages index page page made)
                ∙ sym (get_or-set_same (pages_of pages table) line (Some page) None (omega (arith, within, pages-count pages table))))
            | inr apart ↦
                ap (page_of (set pages index page)) (get_or-set_other table line n (index + 1) 0 apart)
                ∙ other (slice_index table n) (unnamed n) (paging.made n)
                ∙ sym (get_or-set_other (pages_of pages table) line n (Some page) None apart ∙ pages-at pages table n)
          ]

  -- the page of a line goes
  pub pages-freed : (pages : List X) (table : List ℕ) (line : ℕ) → pages_of pages (set table line 0) ≡ set (pages_of pages table) line None
  unfolding pages_of page_of
  pages-freed pages table line = map-set (page_of pages) table line 0

  -- and where there is none all stays
  pub none-kept : (pages : List (Option X)) (line : ℕ) → page_at pages line ≡ None → pages ≡ set pages line None
  none-kept pages line none = sym (ap (λ (o : Option X). set pages line o) (sym none) ∙ set-get_or pages line None)
