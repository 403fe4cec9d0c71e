-- Bytes that are laid into lines and fetched out of them.
use Rattle.std.proofs.Common.{◌≡◌, ◌≢◌, ◌⊎◌, ℕ, ◌+◌, ◌-◌, ◌*◌, ◌/◌, ◌%◌, ◌<◌, ◌≤◌, ◌&&◌, ltb, leb, if◌then◌else◌, List, [], length, get_or, set, take, drop, ◌∷◌, ◌++◌, refl, sym, ◌∙◌, ap, arith, inl, inr}
use Rattle.std.proofs.lemmas.Bool.{cases_eq, cases_lt}
use Rattle.std.proofs.lemmas.List.{length-set, length-take-le, length-drop, get_or-set_same, get_or-set_other, get_or-take, get_or-drop, get_or_append_left, get_or-append_right}
use Rattle.std.proofs.lemmas.Nat.{div-add-mod', div-mul-add, mod-mul-add}
use borrow.Rule.Slice.PartMut.{put_mid}
use Rattle.disk_rules.{specs.Pieces.byte_in, proofs.Pieces.{within, patch_in, patch_beside}}

-- a part of a list in the place of a part of another
pub laid_there : (old part bytes : List ℕ) (at from count width size : ℕ) → at + count ≤ length old → from + count ≤ length bytes
    → width ≡ count → size ≡ count → part ≡ take size (drop from bytes)
    → (j : ℕ) → get_or (put_mid at width old part) j 0 ≡ (if leb at j && ltb j (at + count) then get_or bytes (from + (j - at)) 0 else get_or old j 0)
laid_there old part bytes at from count width size room given width_is size_is is j =
    let whole : part ≡ take count (drop from bytes) = is ∙ ap (λ k. take k (drop from bytes)) size_is in
    let left : length (drop from bytes) ≡ length bytes - from = length-drop from bytes in
    let long : length part ≡ count = ap length whole ∙ length-take-le count (drop from bytes) (omega (arith, left, given)) in
    let before : length (take at old) ≡ at = length-take-le at old (omega (arith, room)) in
    elim (within at (at + count) j) [
      | inl w ↦
          let inner : j - at < count = omega (arith, w.0, w.1) in
          get_or-append_right (take at old) _ at j 0 before w.0
          ∙ get_or_append_left part _ 0 (j - at) (omega (arith, long, inner))
          ∙ ap (λ (xs : List ℕ). get_or xs (j - at) 0) whole ∙ get_or-take count (drop from bytes) (j - at) 0 inner ∙ get_or-drop from bytes (j - at) 0
          ∙ sym (patch_in at (at + count) j _ _ w.0 w.1)
      | inr (inl lower) ↦
          get_or_append_left (take at old) _ 0 j (omega (arith, before, lower)) ∙ get_or-take at old j 0 lower
          ∙ sym (patch_beside at (at + count) j _ _ (inl lower))
      | inr (inr higher) ↦
          let beyond : at + (count + (j - at - count)) ≡ j = omega (arith, higher) in
          get_or-append_right (take at old) _ at j 0 before (omega (arith, higher))
          ∙ get_or-append_right part _ count (j - at) 0 long (omega (arith, higher))
          ∙ ap (λ k. get_or (drop k (drop at old)) (j - at - count) 0) width_is
          ∙ get_or-drop count (drop at old) (j - at - count) 0 ∙ get_or-drop at old (count + (j - at - count)) 0
          ∙ ap (λ k. get_or old k 0) beyond
          ∙ sym (patch_beside at (at + count) j _ _ (inr higher))
    ]

-- of bytes that begin in one line, and end there, those of another line are none
elsewhere : (n place count y : ℕ) → place % n + count ≤ n → y / n ≢ place / n → (y < place) ⊎ (place + count ≤ y)
elsewhere n place count y ends apart =
    let begins : place / n * n + place % n ≡ place = div-add-mod' place n in
    elim (cases_lt y place) [
      | inl lower ↦ inl lower
      | inr from ↦ elim (cases_lt y (place + count)) [
        | inl to ↦
            let rest : y ≡ place / n * n + (y - place / n * n) = omega (arith, begins, from) in
            let small : y - place / n * n < n = omega (arith, begins, ends, from, to) in
            absurd (apart (ap (λ z. z / n) rest ∙ div-mul-add (place / n) n (y - place / n * n) small))
        | inr higher ↦ inr higher
      ]
    ]

-- bytes are laid into one line
pub bytes_laid : (n : ℕ) (lines : List (List ℕ)) (line bytes : List ℕ) (place from count : ℕ) → place / n < length lines → place % n + count ≤ n
    → ((j : ℕ) → get_or line j 0 ≡ (if leb (place % n) j && ltb j (place % n + count) then get_or bytes (from + (j - place % n)) 0 else get_or (get_or lines (place / n) []) j 0))
    → (y : ℕ) → byte_in n (set lines (place / n) line) y ≡ (if leb place y && ltb y (place + count) then get_or bytes (from + (y - place)) 0 else byte_in n lines y)
bytes_laid n lines line bytes place from count there ends is y = elim (cases_eq (y / n) (place / n)) [
  | inl same ↦
      let at : place / n * n + y % n ≡ y = ap (λ q. q * n + y % n) (sym same) ∙ div-add-mod' y n in
      let begins : place / n * n + place % n ≡ place = div-add-mod' place n in
      let row : get_or (set lines (place / n) line) (y / n) [] ≡ line = ap (λ q. get_or (set lines (place / n) line) q []) same ∙ get_or-set_same lines (place / n) line [] there in
      let found = ap (λ (l : List ℕ). get_or l (y % n) 0) row ∙ is (y % n) in
      let old : get_or (get_or lines (place / n) []) (y % n) 0 ≡ byte_in n lines y = ap (λ q. get_or (get_or lines q []) (y % n) 0) (sym same) in
      elim (within (place % n) (place % n + count) (y % n)) [
        | inl w ↦
            let index : from + (y % n - place % n) ≡ from + (y - place) = omega (arith, at, begins, w.0) in
            found ∙ patch_in (place % n) (place % n + count) (y % n) _ _ w.0 w.1 ∙ ap (λ i. get_or bytes i 0) index
            ∙ sym (patch_in place (place + count) y _ _ (omega (arith, at, begins, w.0)) (omega (arith, at, begins, w.1)))
        | inr (inl lower) ↦
            let far : y < place = omega (arith, at, begins, lower) in
            found ∙ patch_beside (place % n) (place % n + count) (y % n) _ _ (inl lower) ∙ old ∙ sym (patch_beside place (place + count) y _ _ (inl far))
        | inr (inr higher) ↦
            let far : place + count ≤ y = omega (arith, at, begins, higher) in
            found ∙ patch_beside (place % n) (place % n + count) (y % n) _ _ (inr higher) ∙ old ∙ sym (patch_beside place (place + count) y _ _ (inr far))
      ]
  | inr apart ↦
      ap (λ (l : List ℕ). get_or l (y % n) 0) (get_or-set_other lines (place / n) (y / n) line [] apart)
      ∙ sym (patch_beside place (place + count) y _ _ (elsewhere n place count y ends apart))
]

-- more bytes are laid behind others
pub laid_more : (begin done next y b given under : ℕ) → (begin + done ≤ y → b ≡ given)
    → (if leb (begin + done) y && ltb y (begin + done + next) then b else (if leb begin y && ltb y (begin + done) then given else under))
    ≡ (if leb begin y && ltb y (begin + (done + next)) then given else under)
laid_more begin done next y b given under is = elim (within (begin + done) (begin + done + next) y) [
  | inl w ↦
      patch_in (begin + done) (begin + done + next) y b _ w.0 w.1 ∙ is w.0
      ∙ sym (patch_in begin (begin + (done + next)) y given under (omega (arith, w.0)) (omega (arith, w.1)))
  | inr (inl lower) ↦ patch_beside (begin + done) (begin + done + next) y b _ (inl lower) ∙ elim (cases_lt y begin) [
    | inl first ↦ patch_beside begin (begin + done) y given under (inl first) ∙ sym (patch_beside begin (begin + (done + next)) y given under (inl first))
    | inr from ↦
        let to : y < begin + (done + next) = omega (arith, lower) in
        patch_in begin (begin + done) y given under from lower ∙ sym (patch_in begin (begin + (done + next)) y given under from to)
  ]
  | inr (inr higher) ↦
      let after : begin + done ≤ y = omega (arith, higher) in
      let beyond : begin + (done + next) ≤ y = omega (arith, higher) in
      patch_beside (begin + done) (begin + done + next) y b _ (inr higher) ∙ patch_beside begin (begin + done) y given under (inr after)
      ∙ sym (patch_beside begin (begin + (done + next)) y given under (inr beyond))
]

-- a byte of a line, by how far it is behind another one of the line
same_line : (n : ℕ) (lines : List (List ℕ)) (place further : ℕ) → place % n + further < n
    → get_or (get_or lines (place / n) []) (place % n + further) 0 ≡ byte_in n lines (place + further)
same_line n lines place further within =
    let begins = div-add-mod' place n in
    let is : place + further ≡ place / n * n + (place % n + further) = omega (arith, begins) in
    sym (ap (byte_in n lines) is
    ∙ ap (λ q. get_or (get_or lines q []) ((place / n * n + (place % n + further)) % n) 0) (div-mul-add (place / n) n (place % n + further) within)
    ∙ ap (λ r. get_or (get_or lines (place / n) []) r 0) (mod-mul-add (place / n) n (place % n + further) within))

-- bytes of one line are fetched behind others
pub fetched_more : (n : ℕ) (lines : List (List ℕ)) (was now : List ℕ) (begin from done next : ℕ) → (begin + done) % n + next ≤ n
    → ((i : ℕ) → i < done → get_or was (from + i) 0 ≡ byte_in n lines (begin + i))
    → ((i : ℕ) → i < next → get_or now (from + done + i) 0 ≡ get_or (get_or lines ((begin + done) / n) []) ((begin + done) % n + i) 0)
    → ((i : ℕ) → i < from + done → get_or now i 0 ≡ get_or was i 0)
    → (i : ℕ) → i < done + next → get_or now (from + i) 0 ≡ byte_in n lines (begin + i)
fetched_more n lines was now begin from done next ends before more kept i below = elim (cases_lt i done) [
  | inl lower ↦ kept (from + i) (omega (arith, lower)) ∙ before i lower
  | inr after ↦
      let here : from + done + (i - done) ≡ from + i = omega (arith, after) in
      let there : begin + done + (i - done) ≡ begin + i = omega (arith, after) in
      let inner : i - done < next = omega (arith, after, below) in
      ap (λ k. get_or now k 0) (sym here) ∙ more (i - done) inner ∙ same_line n lines (begin + done) (i - done) (omega (arith, ends, inner)) ∙ ap (byte_in n lines) there
]

pub length_set : {A : Type 0} (xs : List A) (i : ℕ) (x : A) → length (set xs i x) ≡ length xs
length_set xs i x = simp length-set

-- what is written back into a whole vector
back : {A : Type 0} (now was : List A) → length now ≡ length was → take (length was) (now ++ drop (length now) was) ≡ now
back [] [] same = refl
back [] (x ∷ was) same = absurd (omega (arith, same))
back (x ∷ now) [] same = absurd (omega (arith, same))
back (x ∷ now) (y ∷ was) same = ap (λ xs. x ∷ xs) (back now was (omega (arith, same)))

pub written_back : {A : Type 0} (len : ℕ) (now was : List A) → len ≡ length was → length now ≡ length was → take len (now ++ drop (length now) was) ≡ now
written_back len now was whole same = ap (λ k. take k (now ++ drop (length now) was)) whole ∙ back now was same
