-- How many of some rows stand, counted over a list of rows that fall.
use Rattle.std.proofs.Common.{◌≡◌, ℕ, ◌+◌, ◌<◌, ◌≤◌, ◌==◌, ◌||◌, suc, Bool, true, false, List, [], ◌∷◌, length, refl, sym, ap, ◌∙◌, subst, arith, cond, eqb, eqb-true}
use Rattle.std.proofs.lemmas.Bool.{eq-eqb, ne_eqb, or_left, or_right}
use Rattle.masked_bytes.specs.{Entries.{has_row, RowsApart}, declared.entry.Entry.Entry}
use Rattle.bank_model.specs.History.{Awaited}
use Rattle.bank_laws.specs.Standing.{has_wait, WaitsApart}

-- whether a row is among these
abbrev pub among : List ℕ → ℕ → Bool
among [] row = false
among (a ∷ rs) row = a == row || among rs row

-- no row twice
abbrev pub Apart : List ℕ → Type 0
Apart [] = Unit {0}
Apart (a ∷ rs) = (among rs a ≡ false) × Apart rs

-- rows that fall, below this one
abbrev pub Falling : List ℕ → ℕ → Type 0
Falling [] bound = Unit {0}
Falling (x ∷ xs) bound = (x < bound) × Falling xs x

-- how many of these rows pass a test
abbrev pub hits : (ℕ → Bool) → List ℕ → ℕ
hits p [] = 0
hits p (x ∷ xs) = cond (p x) (suc (hits p xs)) (hits p xs)

pub falling-more : (xs : List ℕ) (a b : ℕ) → a ≤ b → Falling xs a → Falling xs b
falling-more [] a b le f = tt
falling-more (x ∷ xs) a b le f = (omega (arith, f.0), f.1)

hits-above : (xs : List ℕ) (bound r : ℕ) → Falling xs bound → bound ≤ r → hits (λ x. r == x) xs ≡ 0
hits-above [] bound r f le = refl
hits-above (x ∷ xs) bound r f le =
    subst (λ b. cond b (suc (hits (λ x. r == x) xs)) (hits (λ x. r == x) xs) ≡ 0) (sym (ne_eqb r x (λ is. omega (arith, f.0, is)))) (hits-above xs x r f.1 (omega (arith, f.0)))

hits-one : (xs : List ℕ) (bound r : ℕ) → Falling xs bound → among xs r ≡ true → hits (λ x. r == x) xs ≡ 1
hits-one [] bound r f there = absurd (cc)
hits-one (x ∷ xs) bound r f there = by (eqb r x) refl (λ k. hits-one xs x r f.1 k)
  where
    rest : (b : Bool) → b ≡ false → (b || among xs r) ≡ true → among xs r ≡ true
    rest b ne k = grind arith

    by : (b : Bool) → eqb r x ≡ b → (among xs r ≡ true → hits (λ x. r == x) xs ≡ 1) → cond b (suc (hits (λ x. r == x) xs)) (hits (λ x. r == x) xs) ≡ 1
    by true is go = let same : r ≡ x = eqb-true r x is in ap suc (hits-above xs x r f.1 (omega (arith, same)))
    by false is go = go (rest (x == r) (ne_eqb x r (λ k. absurd (cc (eq-eqb r x (sym k), is)))) there)

hits-none : (xs : List ℕ) → hits (λ x. false) xs ≡ 0
hits-none [] = refl
hits-none (x ∷ xs) = hits-none xs

hits-split : (a : ℕ) (rs xs : List ℕ) → among rs a ≡ false → hits (λ x. a == x || among rs x) xs ≡ hits (λ x. a == x) xs + hits (λ x. among rs x) xs
hits-split a rs [] apart = refl
hits-split a rs (x ∷ xs) apart = by (eqb a x) (among rs x) refl refl (hits-split a rs xs apart)
  where
    by : (b c : Bool) → eqb a x ≡ b → among rs x ≡ c → hits (λ x. a == x || among rs x) xs ≡ hits (λ x. a == x) xs + hits (λ x. among rs x) xs
        → cond (b || c) (suc (hits (λ x. a == x || among rs x) xs)) (hits (λ x. a == x || among rs x) xs)
        ≡ cond b (suc (hits (λ x. a == x) xs)) (hits (λ x. a == x) xs) + cond c (suc (hits (λ x. among rs x) xs)) (hits (λ x. among rs x) xs)
    by true true is there ih = absurd (cc (subst (λ r. among rs r ≡ false) (eqb-true a x is) apart, there))
    by false false is there ih = ih
    by _ _ is there ih = omega (arith, ih)

-- as many of the rows are among these as there are of these
pub hits-all : (rs xs : List ℕ) (bound : ℕ) → Apart rs → Falling xs bound → ((r : ℕ) → among rs r ≡ true → among xs r ≡ true) → hits (λ x. among rs x) xs ≡ length rs
hits-all [] xs bound apart f in_it = hits-none xs
hits-all (a ∷ rs) xs bound apart f in_it =
    let one : hits (λ x. a == x) xs ≡ 1 =
    hits-one xs bound a f (in_it a (or_left (a == a) _ (eq-eqb a a refl))) in
    let rest : hits (λ x. among rs x) xs ≡ length rs =
    hits-all rs xs bound apart.1 f (λ r there. in_it r (or_right (a == r) _ there)) in
    hits-split a rs xs apart.0 ∙ omega (arith, one, rest)

pub hits-same : (p q : ℕ → Bool) (xs : List ℕ) → ((x : ℕ) → p x ≡ q x) → hits p xs ≡ hits q xs
hits-same p q [] same = refl
hits-same p q (x ∷ xs) same = subst (λ b. cond (p x) (suc (hits p xs)) (hits p xs) ≡ cond b (suc (hits q xs)) (hits q xs)) (same x) (ap (λ k. cond (p x) (suc k) k) (hits-same p q xs same))

-- The rows of waiting reads, and of entries

abbrev pub wait_rows : List Awaited → List ℕ
wait_rows [] = []
wait_rows (w ∷ ws) = w.row ∷ wait_rows ws

wait-among : (ws : List Awaited) (r : ℕ) → has_wait ws r ≡ among (wait_rows ws) r
wait-among [] r = refl
wait-among (w ∷ ws) r = ap (λ b. w.row == r || b) (wait-among ws r)

wait-apart : (ws : List Awaited) → WaitsApart ws → Apart (wait_rows ws)
wait-apart [] a = tt
wait-apart (w ∷ ws) a = (sym (wait-among ws w.row) ∙ a.0, wait-apart ws a.1)

wait-length : (ws : List Awaited) → length (wait_rows ws) ≡ length ws
wait-length [] = refl
wait-length (w ∷ ws) = ap suc (wait-length ws)

pub waits-counted : (ws : List Awaited) (xs : List ℕ) (bound : ℕ) → WaitsApart ws → Falling xs bound → ((r : ℕ) → has_wait ws r ≡ true → among xs r ≡ true) → hits (λ r. has_wait ws r) xs ≡ length ws
waits-counted ws xs bound apart f in_it =
    hits-same (λ r. has_wait ws r) (λ r. among (wait_rows ws) r) xs (wait-among ws)
    ∙ hits-all (wait_rows ws) xs bound (wait-apart ws apart) f (λ r there. in_it r (wait-among ws r ∙ there)) ∙ wait-length ws

module _ {n : ℕ} where
  abbrev pub entry_rows : List (Entry n) → List ℕ
  entry_rows [] = []
  entry_rows (e ∷ es) = e.row ∷ entry_rows es

  entry-among : (es : List (Entry n)) (r : ℕ) → has_row es r ≡ among (entry_rows es) r
  entry-among [] r = refl
  entry-among (e ∷ es) r = ap (λ b. e.row == r || b) (entry-among es r)

  entry-apart : (es : List (Entry n)) → RowsApart es → Apart (entry_rows es)
  entry-apart [] a = tt
  entry-apart (e ∷ es) a = (sym (entry-among es e.row) ∙ a.0, entry-apart es a.1)

  entry-length : (es : List (Entry n)) → length (entry_rows es) ≡ length es
  entry-length [] = refl
  entry-length (e ∷ es) = ap suc (entry-length es)

  pub entries-counted : (es : List (Entry n)) (xs : List ℕ) (bound : ℕ) → RowsApart es → Falling xs bound → ((r : ℕ) → has_row es r ≡ true → among xs r ≡ true) → hits (λ r. has_row es r) xs ≡ length es
  entries-counted es xs bound apart f in_it =
      hits-same (λ r. has_row es r) (λ r. among (entry_rows es) r) xs (entry-among es)
      ∙ hits-all (entry_rows es) xs bound (entry-apart es apart) f (λ r there. in_it r (entry-among es r ∙ there)) ∙ entry-length es
