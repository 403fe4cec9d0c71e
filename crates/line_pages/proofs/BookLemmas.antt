-- Where a page stands in chunks, and what one more page and a change of one make of them.
use Rattle.std.proofs.Common.{◌≡◌, ℕ, zero, suc, ◌+◌, ◌-◌, ◌*◌, ◌/◌, ◌%◌, ◌<◌, ◌≤◌, min, List, [], ◌∷◌, ◌++◌, length, get_or, set, refl, sym, ◌∙◌, ap, subst, inl, inr, arith, length-append, Vec, vec_capacity}
use Rattle.std.{specs.declared.alloc.Global.Global, proofs.Math.ListN.get_or-append, proofs.Math.Seq.get_or-append_right, proofs.lemmas.Bool.cases_lt}
use Rattle.std.proofs.lemmas.List.{append-nil, append_assoc, set-append_left, set-append_right}
use Rattle.line_pages.specs.Book.{Hold, chunk_room, pages_in}

-- ---- numbers

first-chunk : (i : ℕ) → i < chunk_room → (i / chunk_room ≡ 0) × (i % chunk_room ≡ i)
first-chunk i low = (omega (arith, low), omega (arith, low))

next-chunk : (i : ℕ) → chunk_room ≤ i → (i / chunk_room ≡ suc ((i - chunk_room) / chunk_room)) × (i % chunk_room ≡ (i - chunk_room) % chunk_room)
next-chunk i high = (omega (arith, high), omega (arith, high))

module _ {X : Type 0} where
  -- as many pages as are held
  pub pages-count : (count room : ℕ) (chunks : List (Vec X Global)) → Hold count room chunks → length (pages_in chunks) ≡ count
  unfolding Hold pages_in
  pages-count count room [] hold = sym hold.0
  pages-count count room (chunk ∷ rest) hold =
      let first : length chunk.items ≡ min count chunk_room = hold.0 in
      let behind = pages-count (count - chunk_room) (room - chunk_room) rest hold.2 in
      omega (arith, length-append chunk.items (pages_in rest), first, behind)

  -- there is a chunk for each page for which there is room
  pub chunk-exists : (count room : ℕ) (chunks : List (Vec X Global)) (i : ℕ) → Hold count room chunks → i < room → i / chunk_room < length chunks
  unfolding Hold
  chunk-exists count room [] i hold low = absurd (omega (arith, hold.1, low))
  chunk-exists count room (chunk ∷ rest) i hold low =
      elim (cases_lt i chunk_room) [
        | inl here ↦ rw (first-chunk i here).0 (omega arith)
        | inr far ↦
            let behind = chunk-exists (count - chunk_room) (room - chunk_room) rest (i - chunk_room) hold.2 (omega (arith, low, far)) in
            rw (next-chunk i far).0 (omega (arith, behind))
      ]

  -- where the page of a number stands
  pub record Stands (chunks : List (Vec X Global)) (i : ℕ) (v : Vec X Global) : Type 0 where
    pub chunk : i / chunk_room < length chunks
    pub page : i % chunk_room < length (get_or chunks (i / chunk_room) v).items
    pub is : (d : X) → get_or (pages_in chunks) i d ≡ get_or (get_or chunks (i / chunk_room) v).items (i % chunk_room) d
    pub set_is : (w : Vec X Global) (x : X) → w.items ≡ set (get_or chunks (i / chunk_room) v).items (i % chunk_room) x
        → pages_in (set chunks (i / chunk_room) w) ≡ set (pages_in chunks) i x

  pub stands : (count room : ℕ) (chunks : List (Vec X Global)) (i : ℕ) (v : Vec X Global) → Hold count room chunks → i < count → Stands chunks i v
  unfolding Hold pages_in
  stands count room [] i v hold low = absurd (omega (arith, hold.0, low))
  stands count room (chunk ∷ rest) i v hold low =
      let first : length chunk.items ≡ min count chunk_room = hold.0 in
      elim (cases_lt i chunk_room) [
        | inl here ↦
            let at = first-chunk i here in
            let inside : i < length chunk.items = omega (arith, first, low, here) in
            record {
              chunk = rw at.0 (omega arith);
              page = rw (at.0, at.1) inside;
              is = λ d. rw (at.0, at.1) (get_or-append chunk.items (pages_in rest) d i inside);
              set_is = λ w x made.
                  let own : w.items ≡ set chunk.items i x = rw (at.0, at.1) at made in
                  rw at.0 (ap (λ (xs : List X). xs ++ pages_in rest) own ∙ sym (set-append_left chunk.items (pages_in rest) i x inside));
            }
        | inr far ↦
            let at = next-chunk i far in
            let full : length chunk.items ≡ chunk_room = omega (arith, first, low, far) in
            let behind = stands (count - chunk_room) (room - chunk_room) rest (i - chunk_room) v hold.2 (omega (arith, low, far)) in
            record {
              chunk = rw at.0 (let below = behind.chunk in omega (arith, below));
              page = rw (at.0, at.1) behind.page;
              is = λ d.
                  get_or-append_right chunk.items (pages_in rest) i d (omega (arith, full, far))
                  ∙ ap (λ (k : ℕ). get_or (pages_in rest) (i - k) d) full
                  ∙ rw (at.0, at.1) (behind.is d);
              set_is = λ w x made.
                  let own = rw (at.0, at.1) at made in
                  rw at.0 (ap (λ (xs : List X). chunk.items ++ xs) (behind.set_is w x own) ∙ sym (set-append_right chunk.items (pages_in rest) chunk_room i x full far));
            }
      ]

  -- a chunk is replaced by one of as many pages and as much room
  pub hold-set : (count room : ℕ) (chunks : List (Vec X Global)) (c : ℕ) (v w : Vec X Global) → Hold count room chunks
      → length w.items ≡ length (get_or chunks c v).items → vec_capacity w ≡ vec_capacity (get_or chunks c v) → Hold count room (set chunks c w)
  unfolding Hold
  hold-set count room [] c v w hold size same = hold
  hold-set count room (chunk ∷ rest) zero v w hold size same = (size ∙ hold.0, (let fits = hold.1 in omega (arith, fits, same)), hold.2)
  hold-set count room (chunk ∷ rest) (suc c) v w hold size same = (hold.0, hold.1, hold-set (count - chunk_room) (room - chunk_room) rest c v w hold.2 size same)

  -- one more page behind all
  pub record Takes (count room : ℕ) (chunks : List (Vec X Global)) (v : Vec X Global) : Type 0 where
    pub chunk : count / chunk_room < length chunks
    pub fits : length (get_or chunks (count / chunk_room) v).items < vec_capacity (get_or chunks (count / chunk_room) v)
    pub more : (w : Vec X Global) (x : X) → w.items ≡ (get_or chunks (count / chunk_room) v).items ++ x ∷ []
        → vec_capacity w ≡ vec_capacity (get_or chunks (count / chunk_room) v)
        → Hold (count + 1) room (set chunks (count / chunk_room) w) × (pages_in (set chunks (count / chunk_room) w) ≡ pages_in chunks ++ x ∷ [])

  none-behind : (room : ℕ) (chunks : List (Vec X Global)) → Hold 0 room chunks → pages_in chunks ≡ []
  unfolding Hold pages_in
  none-behind room [] hold = refl
  none-behind room (chunk ∷ rest) hold =
      let first : length chunk.items ≡ 0 = (let size = hold.0 in omega (arith, size)) in
      ap (λ (xs : List X). xs ++ pages_in rest) (empty chunk.items first) ∙ none-behind (room - chunk_room) rest hold.2
    where
      empty : (xs : List X) → length xs ≡ 0 → xs ≡ []
      empty [] none = refl
      empty (x ∷ xs) none = absurd (omega (arith, none))

  pub takes : (count room : ℕ) (chunks : List (Vec X Global)) (v : Vec X Global) → Hold count room chunks → count < room → Takes count room chunks v
  unfolding Hold pages_in
  takes count room [] v hold low = absurd (omega (arith, hold.1, low))
  takes count room (chunk ∷ rest) v hold low =
      let first : length chunk.items ≡ min count chunk_room = hold.0 in
      let fits : min room chunk_room ≤ vec_capacity chunk = hold.1 in
      elim (cases_lt count chunk_room) [
        | inl here ↦
            let at = first-chunk count here in
            let none : count - chunk_room ≡ 0 = omega (arith, here) in
            let empty : pages_in rest ≡ [] = none-behind (room - chunk_room) rest (subst (λ (k : ℕ). Hold k (room - chunk_room) rest) none hold.2) in
            record {
              chunk = rw at.0 (omega arith);
              fits = rw at.0 (omega (arith, first, fits, here, low));
              more = λ w x made same.
                  let own : w.items ≡ chunk.items ++ x ∷ [] = rw at.0 at made in
                  let room_same : vec_capacity w ≡ vec_capacity chunk = rw at.0 at same in
                  rw at.0 (
                    (
                      ap length own ∙ length-append chunk.items (x ∷ []) ∙ omega (arith, first, here),
                      omega (arith, fits, room_same),
                      (let still : count + 1 - chunk_room ≡ count - chunk_room = omega (arith, here) in subst (λ (k : ℕ). Hold k (room - chunk_room) rest) (sym still) hold.2),
                    ),
                    ap (λ (xs : List X). xs ++ pages_in rest) own ∙ ap (λ (ys : List X). (chunk.items ++ x ∷ []) ++ ys) empty ∙ append-nil (chunk.items ++ x ∷ [])
                        ∙ sym (ap (λ (ys : List X). (chunk.items ++ ys) ++ x ∷ []) empty ∙ ap (λ (ys : List X). ys ++ x ∷ []) (append-nil chunk.items)),
                  );
            }
        | inr far ↦
            let at = next-chunk count far in
            let behind = takes (count - chunk_room) (room - chunk_room) rest v hold.2 (omega (arith, low, far)) in
            record {
              chunk = rw at.0 (let below = behind.chunk in omega (arith, below));
              fits = rw at.0 behind.fits;
              more = λ w x made same.
                  let is = behind.more w x (rw at.0 at made) (rw at.0 at same) in
                  let next : count + 1 - chunk_room ≡ count - chunk_room + 1 = omega (arith, far) in
                  rw at.0 (
                    (first ∙ omega (arith, far), fits, subst (λ (k : ℕ). Hold k (room - chunk_room) (set rest ((count - chunk_room) / chunk_room) w)) (sym next) is.0),
                    ap (λ (xs : List X). chunk.items ++ xs) is.1 ∙ sym (append_assoc chunk.items (pages_in rest) (x ∷ [])),
                  );
            }
      ]

  -- ---- new chunks

  -- so many full chunks of room, without a page
  pub record AreEmpty (index room : ℕ) (chunks : List (Vec X Global)) : Type 0 where
    pub hold : Hold 0 (min room (chunk_room * index)) chunks
    pub count : length chunks ≡ index

  append-empty : (room : ℕ) (chunks : List (Vec X Global)) (next : ℕ) (w : Vec X Global) → room ≡ chunk_room * length chunks → Hold 0 room chunks
      → w.items ≡ [] → next ≤ chunk_room → next ≤ vec_capacity w → Hold 0 (room + next) (chunks ++ w ∷ [])
  unfolding Hold
  append-empty room [] next w full hold none few fits = (ap length none, omega (arith, full, few, fits), (refl, omega (arith, full, few)))
  append-empty room (chunk ∷ rest) next w full hold none few fits =
      let has : min room chunk_room ≤ vec_capacity chunk = hold.1 in
      let less : room + next - chunk_room ≡ room - chunk_room + next = omega (arith, full) in (
        hold.0,
        omega (arith, has, full),
        subst (λ (k : ℕ). Hold 0 k (rest ++ w ∷ [])) (sym less) (append-empty (room - chunk_room) rest next w (omega (arith, full)) hold.2 none few fits),
      )

  pub empty-none : (room : ℕ) → AreEmpty 0 room []
  unfolding Hold
  empty-none room = record { hold = (refl, omega arith); count = refl }

  pub empty-more : (index room next : ℕ) (chunks : List (Vec X Global)) (w : Vec X Global) → AreEmpty index room chunks → chunk_room * index < room
      → next ≡ min (room - chunk_room * index) chunk_room → w.items ≡ [] → next ≤ vec_capacity w → AreEmpty (index + 1) room (chunks ++ w ∷ [])
  empty-more index room next chunks w are low is none fits =
      let before : min room (chunk_room * index) ≡ chunk_room * index = omega (arith, low) in
      let all : chunk_room * index + next ≡ min room (chunk_room * (index + 1)) = omega (arith, low, is) in
      record {
        hold = subst (λ (k : ℕ). Hold 0 k (chunks ++ w ∷ [])) all
            (append-empty (chunk_room * index) chunks next w (let size = are.count in omega (arith, size)) (subst (λ (k : ℕ). Hold 0 k chunks) before are.hold) none (omega (arith, is)) fits);
        count = length-append chunks (w ∷ []) ∙ (let size = are.count in omega (arith, size));
      }

  pub empty-all : (index room : ℕ) (chunks : List (Vec X Global)) → AreEmpty index room chunks → room ≤ chunk_room * index
      → Hold 0 room chunks × (pages_in chunks ≡ [])
  empty-all index room chunks are all =
      let whole : min room (chunk_room * index) ≡ room = omega (arith, all) in
      let hold = subst (λ (k : ℕ). Hold 0 k chunks) whole are.hold in
      (hold, none-behind room chunks hold)
