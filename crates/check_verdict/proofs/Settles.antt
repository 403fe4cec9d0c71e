-- What is kept of a bank, as time passes.
use Rattle.std.proofs.Common.{◌≡◌, ℕ, ◌+◌, ◌<◌, ◌≤◌, ◌&&◌, ◌||◌, ◌⊎◌, inl, inr, Bool, true, false, List, [], ◌∷◌, ◌++◌, Option, refl, sym, ap, ◌∙◌, cond, arith}
use Rattle.std.{specs.List.list_all, specs.Prelude.{nat_le, nat_lt, not, reverse, map, filter}, proofs.lemmas.Bool.{le-leb, lt-leb, lt-ltb, le-ltb, cases_lt}}
use Rattle.std.proofs.lemmas.List.{reverse-append, append-nil}
use Rattle.masked_bytes.proofs.{Truth.and_true, Turning.{and_turn, and_mid, and_group}}
use Rattle.result_rows.specs.declared.Outcome.{Outcome}
use Rattle.result_rows.specs.declared.Outcome.TheVariants as out
use Rattle.row_rules.specs.{Answers.stored_by, Queueing.pending, declared.Row.Row}
use Rattle.check_judging.specs.{Distances.{later_of, is_far_below, end_above, ends_above, wait_above, waits_above, end_to, last_end}, Heads.end_of, Steps.stays}
use Rattle.check_judging.proofs.{Apart.far_later, Steps.settle_law}
use Rattle.check_verdict.{specs.Kept.{sight, sight_of, Shows, ended, SettleKeptLaw}, specs.Members.never, specs.declared.members.Member.Member, proofs.Apart.by_members}

pub filter-map : {A B : Type 0} (g : B → Bool) (f : A → B) (xs : List A) → map f (filter (λ x. g (f x)) xs) ≡ filter g (map f xs)
filter-map g f [] = refl
filter-map g f (x ∷ xs) = by (g (f x)) (filter-map g f xs)
  where
    by : (b : Bool) → map f (filter (λ x. g (f x)) xs) ≡ filter g (map f xs)
        → map f (cond b (x ∷ filter (λ x. g (f x)) xs) (filter (λ x. g (f x)) xs)) ≡ cond b (f x ∷ filter g (map f xs)) (filter g (map f xs))
    by true ih = ap (λ ys. f x ∷ ys) ih
    by false ih = ih

filter-append : {A : Type 0} (g : A → Bool) (xs ys : List A) → filter g (xs ++ ys) ≡ filter g xs ++ filter g ys
filter-append g [] ys = refl
filter-append g (x ∷ xs) ys = by (g x) (filter-append g xs ys)
  where
    by : (b : Bool) → filter g (xs ++ ys) ≡ filter g xs ++ filter g ys → cond b (x ∷ filter g (xs ++ ys)) (filter g (xs ++ ys)) ≡ cond b (x ∷ filter g xs) (filter g xs) ++ filter g ys
    by true ih = ap (λ zs. x ∷ zs) ih
    by false ih = ih

pub filter-reverse : {A : Type 0} (g : A → Bool) (xs : List A) → filter g (reverse xs) ≡ reverse (filter g xs)
filter-reverse g [] = refl
filter-reverse g (x ∷ xs) =
    ap (filter g) (reverse-append (x ∷ []) xs) ∙ filter-append g (reverse xs) (x ∷ []) ∙ ap (λ zs. zs ++ filter g (x ∷ [])) (filter-reverse g xs) ∙ by (g x)
  where
    by : (b : Bool) → reverse (filter g xs) ++ cond b (x ∷ []) [] ≡ reverse (cond b (x ∷ filter g xs) (filter g xs))
    by true = sym (reverse-append (x ∷ []) (filter g xs))
    by false = append-nil (reverse (filter g xs))

pub filter-same : {A : Type 0} (p q : A → Bool) → ((x : A) → p x ≡ q x) → (xs : List A) → filter p xs ≡ filter q xs
filter-same p q same [] = refl
filter-same p q same (x ∷ xs) = ap (λ b. cond b (x ∷ filter p xs) (filter p xs)) (same x) ∙ ap (λ ys. cond (q x) (x ∷ ys) ys) (filter-same p q same xs)

-- a member that is stored by u is far below x
abbrev Far : ℕ → ℕ → ℕ → ℕ → Bool
Far u read x v = not (nat_le v u) || nat_le (v + read) x

module _ (t u : ℕ) (le : t ≤ u) where
  -- a row that is stored
  far_one : (read x v : ℕ) (later earlier : Option ℕ) (ends : List ℕ) → is_far_below read x later ≡ (is_far_below read x earlier && list_all (Far u read x) ends)
      → is_far_below read x (cond (nat_lt u v) later (later_of v later))
      ≡ (is_far_below read x (cond (nat_lt t v) earlier (later_of v earlier)) && list_all (Far u read x) (cond (nat_lt t v) (v ∷ ends) ends))
  far_one read x v later earlier ends ih = by (cases_lt t v) (cases_lt u v)
    where
      by : (t < v) ⊎ (v ≤ t) → (u < v) ⊎ (v ≤ u)
          → is_far_below read x (cond (nat_lt u v) later (later_of v later))
          ≡ (is_far_below read x (cond (nat_lt t v) earlier (later_of v earlier)) && list_all (Far u read x) (cond (nat_lt t v) (v ∷ ends) ends))
      by (inl a) (inl b) =
          ap (λ c. is_far_below read x (cond c later (later_of v later))) (lt-ltb u v b)
          ∙ ih
          ∙ ap (λ c. is_far_below read x earlier && ((not c || nat_le (v + read) x) && list_all (Far u read x) ends)) (sym (lt-leb v u b))
          ∙ ap (λ b. is_far_below read x (cond b earlier (later_of v earlier)) && list_all (Far u read x) (cond b (v ∷ ends) ends)) (sym (lt-ltb t v a))
      by (inl a) (inr b) =
          ap (λ c. is_far_below read x (cond c later (later_of v later))) (le-ltb u v b)
          ∙ far_later read x v later
          ∙ ap (λ c. nat_le (v + read) x && c) ih
          ∙ and_turn (nat_le (v + read) x) (is_far_below read x earlier) (list_all (Far u read x) ends)
          ∙ ap (λ c. is_far_below read x earlier && ((not c || nat_le (v + read) x) && list_all (Far u read x) ends)) (sym (le-leb v u b))
          ∙ ap (λ b. is_far_below read x (cond b earlier (later_of v earlier)) && list_all (Far u read x) (cond b (v ∷ ends) ends)) (sym (lt-ltb t v a))
      by (inr a) c =
          ap (λ c. is_far_below read x (cond c later (later_of v later))) (le-ltb u v (omega (arith, a, le)))
          ∙ far_later read x v later
          ∙ ap (λ c. nat_le (v + read) x && c) ih
          ∙ and_group (nat_le (v + read) x) (is_far_below read x earlier) (list_all (Far u read x) ends)
          ∙ ap (λ b. b && list_all (Far u read x) ends) (sym (far_later read x v earlier))
          ∙ ap (λ b. is_far_below read x (cond b earlier (later_of v earlier)) && list_all (Far u read x) (cond b (v ∷ ends) ends)) (sym (le-ltb t v a))

  waits_one : (v : ℕ) (later earlier : List ℕ) → later ≡ filter (λ v. nat_lt u v) earlier
      → cond (nat_lt u v) (v ∷ later) later ≡ filter (λ v. nat_lt u v) (cond (nat_lt t v) (v ∷ earlier) earlier)
  waits_one v later earlier ih = by (cases_lt t v)
    where
      by : (t < v) ⊎ (v ≤ t) → cond (nat_lt u v) (v ∷ later) later ≡ filter (λ v. nat_lt u v) (cond (nat_lt t v) (v ∷ earlier) earlier)
      by (inl a) = ap (λ zs. cond (nat_lt u v) (v ∷ zs) zs) ih ∙ ap (λ b. filter (λ v. nat_lt u v) (cond b (v ∷ earlier) earlier)) (sym (lt-ltb t v a))
      by (inr a) = ap (λ b. cond b (v ∷ later) later) (le-ltb u v (omega (arith, a, le))) ∙ ih ∙ ap (λ b. filter (λ v. nat_lt u v) (cond b (v ∷ earlier) earlier)) (sym (le-ltb t v a))

module _ {n : ℕ} (t u : ℕ) (le : t ≤ u) where
  far : (read x : ℕ) (rows : List (Row n)) → is_far_below read x (last_end u rows) ≡ (is_far_below read x (last_end t rows) && list_all (Far u read x) (ends_above t rows))
  far read x [] = refl
  far read x (q ∷ rows) = by q.outcome (far read x rows)
    where
      by : (o : Outcome n) → is_far_below read x (last_end u rows) ≡ (is_far_below read x (last_end t rows) && list_all (Far u read x) (ends_above t rows))
          → is_far_below read x (end_to u o (last_end u rows)) ≡ (is_far_below read x (end_to t o (last_end t rows)) && list_all (Far u read x) (end_above t o (ends_above t rows)))
      by (out.Stored v place) ih = far_one t u le read x v (last_end u rows) (last_end t rows) (ends_above t rows) ih
      by _ ih = ih

  waits_on : (rows : List (Row n)) → waits_above u rows ≡ filter (λ v. nat_lt u v) (waits_above t rows)
  waits_on [] = refl
  waits_on (q ∷ rows) = by q.outcome (waits_on rows)
    where
      by : (o : Outcome n) → waits_above u rows ≡ filter (λ v. nat_lt u v) (waits_above t rows) → wait_above u o (waits_above u rows) ≡ filter (λ v. nat_lt u v) (wait_above t o (waits_above t rows))
      by (out.Read v place bytes) ih = waits_one t u le v (waits_above u rows) (waits_above t rows) ih
      by _ ih = ih

-- the last store, once members have left
far_ended : (u read x : ℕ) (members : List Member) (last : Option ℕ) → is_far_below read x (ended u members last) ≡ (is_far_below read x last && list_all (λ m. Far u read x m.end) members)
far_ended u read x [] last = sym (and_true (is_far_below read x last))
far_ended u read x (m ∷ members) last = by (nat_le m.end u) (λ l. far_ended u read x members l)
  where
    by : (b : Bool) → ((l : Option ℕ) → is_far_below read x (ended u members l) ≡ (is_far_below read x l && list_all (λ m. Far u read x m.end) members))
        → is_far_below read x (ended u members (cond b (later_of m.end last) last))
        ≡ (is_far_below read x last && ((not b || nat_le (m.end + read) x) && list_all (λ m. Far u read x m.end) members))
    by true ih =
        ih (later_of m.end last)
        ∙ ap (λ b. b && list_all (λ m. Far u read x m.end) members) (far_later read x m.end last)
        ∙ and_mid (nat_le (m.end + read) x) (is_far_below read x last) (list_all (λ m. Far u read x m.end) members)
    by false ih = ih last

module _ {n : ℕ} (u : ℕ) (below : u < never) where
  stays_is : (o : Outcome n) → not (stored_by u o) ≡ not (nat_le (end_of never o) u)
  stays_is (out.Stored v place) = refl
  stays_is _ = sym (ap not (lt-leb never u below))

  -- members that stay show rows that stay
  show_on : (members : List Member) (rows : List (Row n)) → Shows members rows → Shows (filter (λ m. not (nat_le m.end u)) members) (filter (stays u) rows)
  show_on members rows shows =
      filter-map (λ s. not (nat_le s.end u)) sight members
      ∙ ap (filter (λ s. not (nat_le s.end u))) shows
      ∙ filter-reverse (λ s. not (nat_le s.end u)) (map sight_of rows)
      ∙ ap reverse (sym (filter-map (λ s. not (nat_le s.end u)) sight_of rows))
      ∙ ap (λ qs. reverse (map sight_of qs)) (sym (filter-same (stays u) (λ q. not (nat_le (end_of never q.outcome) u)) (λ q. stays_is q.outcome) rows))

pub settle_kept_law : SettleKeptLaw
settle_kept_law n t u rows members waits lost last_answer last_store le below kept = record {
  own = kept.own;
  writes =
      show_on u below members (pending t [] rows) kept.writes
      ∙ ap (λ qs. reverse (map sight_of qs)) (sym (settle_law n t u rows le).writes);
  to_come =
      ap (filter (λ v. nat_lt u v)) kept.to_come
      ∙ filter-reverse (λ v. nat_lt u v) (waits_above t rows)
      ∙ ap reverse (sym (waits_on t u le rows));
  losing = kept.losing;
  answered = kept.answered;
  stored = λ read x.
      far_ended u read x members last_store
      ∙ ap (λ b. b && list_all (λ m. Far u read x m.end) members) (kept.stored read x)
      ∙ ap (λ b. is_far_below read x (last_end t rows) && b)
      (sym (by_members t rows members waits lost last_answer last_store kept (Far u read x) (ap (λ b. not b || nat_le (never + read) x) (lt-leb never u below))))
      ∙ sym (far t u le read x rows);
}
