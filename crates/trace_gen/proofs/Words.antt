-- The bytes that a generator of words fills in: as many as were asked for, and each is a byte.
use Rattle.std.proofs.Common.{◌≡◌, ℕ, zero, suc, ◌+◌, ◌*◌, ◌/◌, ◌%◌, ◌≤◌, List, [], ◌∷◌, ◌++◌, length, take, refl, sym, ap, ◌∙◌, arith, length-append}
use Rattle.std.{specs.Int.{w64, to_le_bytes}, proofs.lemmas.List.{length-take-le, take_all}}
use Rattle.rand_core.{specs.Steps.{steps_u64_high, word_bytes}, specs.Stream.{Stream, fill_bytes, next_u64}, proofs.StepsLemmas.{fill_bytes-stream_of, next_u64-stream_of}}
use Rattle.rand_xoshiro.specs.Xoshiro256.{plus_plus}
use Rattle.hex.specs.Hex.{IsBytes}
use Rattle.trace_gen.specs.{Generated.{bytes_of_words, words_left}, Laws.PayloadLaw}

-- bytes behind bytes
pub IsBytes-append : (xs ys : List ℕ) → IsBytes xs → IsBytes ys → IsBytes (xs ++ ys)
IsBytes-append [] ys hx hy i = hy i
IsBytes-append (x ∷ xs) ys hx hy zero = hx 0
IsBytes-append (x ∷ xs) ys hx hy (suc i) = IsBytes-append xs ys (λ k. hx (suc k)) hy i

IsBytes-nil : IsBytes []
IsBytes-nil i = omega arith

IsBytes-take : (n : ℕ) (xs : List ℕ) → IsBytes xs → IsBytes (take n xs)
IsBytes-take zero xs h i = IsBytes-nil i
IsBytes-take (suc n) [] h i = IsBytes-nil i
IsBytes-take (suc n) (x ∷ xs) h zero = h 0
IsBytes-take (suc n) (x ∷ xs) h (suc i) = IsBytes-take n xs (λ k. h (suc k)) i

-- a word is eight bytes
record AreBytes (xs : List ℕ) : Type 0 where
  all : IsBytes xs

no_bytes : AreBytes []
no_bytes = record { all = IsBytes-nil }

low_byte : (m : ℕ) (rest : List ℕ) → AreBytes rest → AreBytes (m % 256 ∷ rest)
low_byte m rest h = record { all = by }
  where
    by : IsBytes (m % 256 ∷ rest)
    by zero = omega arith
    by (suc i) = h.all i

word_length : (w : ℕ) → length (to_le_bytes w64 w) ≡ 8
word_length w = refl

word_IsBytes : (w : ℕ) → IsBytes (to_le_bytes w64 w)
word_IsBytes w =
    let eight : AreBytes (to_le_bytes w64 w) =
    low_byte _ _ (low_byte _ _ (low_byte _ _ (low_byte _ _ (low_byte _ _ (low_byte _ _ (low_byte _ _ (low_byte _ _ no_bytes))))))) in
    eight.all

-- the bytes of words
grown : (xs ys : List ℕ) (k : ℕ) → length xs ≡ 8 * k → length ys ≡ 8 → length (xs ++ ys) ≡ 8 * suc k
grown xs ys k before one = length-append xs ys ∙ omega arith

word_bytes-length : {S : Type 0} (step : S → ℕ × S) (k : ℕ) (s : S) → length (word_bytes (to_le_bytes w64) step k s).0 ≡ 8 * k
unfolding word_bytes
word_bytes-length step zero s = refl
word_bytes-length step (suc k) s =
    grown (word_bytes (to_le_bytes w64) step k s).0 (to_le_bytes w64 (step (word_bytes (to_le_bytes w64) step k s).1).0) k (word_bytes-length step k s)
    (word_length (step (word_bytes (to_le_bytes w64) step k s).1).0)

word_bytes-IsBytes : {S : Type 0} (step : S → ℕ × S) (k : ℕ) (s : S) → IsBytes (word_bytes (to_le_bytes w64) step k s).0
unfolding word_bytes
word_bytes-IsBytes step zero s = IsBytes-nil
word_bytes-IsBytes step (suc k) s =
    IsBytes-append (word_bytes (to_le_bytes w64) step k s).0 (to_le_bytes w64 (step (word_bytes (to_le_bytes w64) step k s).1).0) (word_bytes-IsBytes step k s)
    (word_IsBytes (step (word_bytes (to_le_bytes w64) step k s).1).0)

-- what a generator answers is that of a state
pub record IsWords (left : Stream) : Type 0 where
  pub state : List ℕ
  pub is : left ≡ words_left state

-- the bytes that are filled in
pub record Fills (n : ℕ) (drawn : List ℕ × Stream) : Type 0 where
  pub size : length drawn.0 ≡ n
  pub bytes : IsBytes drawn.0
  pub left : IsWords drawn.1

fills-state : (n : ℕ) (state : List ℕ) → Fills n (fill_bytes n (words_left state))
fills-state n state =
    let many = word_bytes-length plus_plus ((n + 7) / 8) state in
    let enough : n ≤ length (word_bytes (to_le_bytes w64) plus_plus ((n + 7) / 8) state).0 = omega arith in
    rw (fill_bytes-stream_of (steps_u64_high plus_plus) n state) (record {
      size = length-take-le n (word_bytes (to_le_bytes w64) plus_plus ((n + 7) / 8) state).0 enough;
      bytes = IsBytes-take n (word_bytes (to_le_bytes w64) plus_plus ((n + 7) / 8) state).0 (word_bytes-IsBytes plus_plus ((n + 7) / 8) state);
      left = record { state = (word_bytes (to_le_bytes w64) plus_plus ((n + 7) / 8) state).1; is = refl };
    })

pub fills : (n : ℕ) (left : Stream) → IsWords left → Fills n (fill_bytes n left)
fills n left h = rw h.is (fills-state n h.state)

-- what is left after a word
pub after-word : (left : Stream) → IsWords left → IsWords (next_u64 left).1
after-word left h = rw h.is (record { state = (plus_plus h.state).1; is = ap (λ (p : ℕ × Stream). p.1) (next_u64-stream_of (steps_u64_high plus_plus) h.state) })

-- the bytes that are filled in are those of words
words-state : (k : ℕ) (state : List ℕ) → bytes_of_words k (words_left state) ≡ ((word_bytes (to_le_bytes w64) plus_plus k state).0, words_left (word_bytes (to_le_bytes w64) plus_plus k state).1)
unfolding bytes_of_words word_bytes
words-state zero state = refl
words-state (suc k) state =
    let before = word_bytes (to_le_bytes w64) plus_plus k state in
    rw (words-state k state, next_u64-stream_of (steps_u64_high plus_plus) before.1) refl

pub payload_law : PayloadLaw
payload_law words state =
    let many : (8 * words + 7) / 8 ≡ words = omega arith in
    let all : length (word_bytes (to_le_bytes w64) plus_plus words state).0 ≤ 8 * words = omega (arith, word_bytes-length plus_plus words state) in
    rw (fill_bytes-stream_of (steps_u64_high plus_plus) (8 * words) state, many, take_all (8 * words) (word_bytes (to_le_bytes w64) plus_plus words state).0 all)
    (sym (words-state words state))
