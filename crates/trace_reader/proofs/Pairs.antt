-- How the pairs of a masked payload are read one after the other.
use Rattle.std.proofs.Common.{◌≡◌, ◌≢◌, ℕ, suc, ◌+◌, ◌*◌, ◌<◌, ◌==◌, ◌&&◌, ◌||◌, List, [], ◌∷◌, ◌++◌, length, get_or, take, drop, Bool, true, Option, Some, None, refl, sym, ap, ◌∙◌, arith, unwrap_or, is_some, map}
use Rattle.std.{specs.List.list_any, specs.Option.option_and_then, specs.Prelude.{option_map, if◌then◌else◌}, proofs.Math.ListN.set, proofs.Math.Seq.{take-suc-set, drop-cons}}
use Rattle.std.proofs.{lemmas.Bool.Decides.nat_tests, lemmas.List.{length-append, append_assoc, append-nil, map-append, take_all, drop_all}}
use Rattle.trace_reader.specs.Payload.{pair_of, pairs_of, masked_of, masked_by, Masked}

-- a pair in front of pairs
abbrev pub pair_before : Option (Option ℕ) → Option (List (Option ℕ)) → Option (List (Option ℕ))
pair_before first rest = option_and_then (λ pair. option_map (λ pairs. pair ∷ pairs) rest) first

-- pairs in front of pairs
abbrev pub pairs_before : List (Option ℕ) → Option (List (Option ℕ)) → Option (List (Option ℕ))
pairs_before pairs rest = option_map (λ more. pairs ++ more) rest

pairs_before-pair : (pairs : List (Option ℕ)) (pair : Option ℕ) (o : Option (List (Option ℕ))) → pairs_before pairs (pair_before (Some pair) o) ≡ pairs_before (pairs ++ (pair ∷ [])) o
pairs_before-pair pairs pair None = refl
pairs_before-pair pairs pair (Some x) = ap Some (sym (append_assoc pairs (pair ∷ []) x))

-- a text has two characters for each pair
pairs-length-go : (first : Option (Option ℕ)) (rest : Option (List (Option ℕ))) (size : ℕ) (pairs : List (Option ℕ))
    → ((more : List (Option ℕ)) → rest ≡ Some more → size ≡ 2 * length more)
    → pair_before first rest ≡ Some pairs → suc (suc size) ≡ 2 * length pairs
pairs-length-go (Some pair) (Some more) size pairs sized h =
    let e : pair ∷ more ≡ pairs = cc in
    let s : size ≡ 2 * length more = sized more refl in
    rw (← e) (omega arith)
pairs-length-go _ _ size pairs sized h = cc h

pub pairs_of-length : (text : List ℕ) (pairs : List (Option ℕ)) → pairs_of text ≡ Some pairs → length text ≡ 2 * length pairs
unfolding pairs_of
pairs_of-length [] pairs h =
    let e : [] ≡ pairs = cc in
    rw (← e) refl
pairs_of-length (odd ∷ []) pairs h = cc h
pairs_of-length (high ∷ low ∷ rest) pairs h = pairs-length-go (pair_of high low) (pairs_of rest) (length rest) pairs (λ more e. pairs_of-length rest more e) h

-- what masked_of makes of the pairs
abbrev pub masked_from : ℕ → Option (List (Option ℕ)) → Option Masked
masked_from n found =
    option_and_then (λ pairs. if (length pairs == n) && list_any is_some pairs then Some (masked_by pairs) else None) found

masked-size : (n size : ℕ) (found : Option (List (Option ℕ))) → size ≢ 2 * n → ((pairs : List (Option ℕ)) → found ≡ Some pairs → size ≡ 2 * length pairs) → masked_from n found ≡ None
masked-size n size None other sized = refl
masked-size n size (Some pairs) other sized =
    let s : size ≡ 2 * length pairs = sized pairs refl in
    grind (arith, nat_tests)

-- a text of another length
pub masked_of-length : (n : ℕ) (text : List ℕ) → length text ≢ 2 * n → masked_of n text ≡ None
unfolding masked_of
masked_of-length n text other = masked-size n (length text) (pairs_of text) other (pairs_of-length text)

-- the first i pairs were read into the bytes and the given ones
pub record ReadsPairs (text : List ℕ) (i : ℕ) (bytes : List ℕ) (given : List Bool) : Type 0 where
  pub pairs : List (Option ℕ)
  pub size : length pairs ≡ i
  pub bytes_are : take i bytes ≡ map (λ pair. unwrap_or pair 0) pairs
  pub given_are : take i given ≡ map is_some pairs
  pub rest : pairs_of text ≡ pairs_before pairs (pairs_of (drop (2 * i) text))

-- the next pair of a text
pairs_of-next : (text : List ℕ) (j : ℕ) → j + 1 < length text → pairs_of (drop j text) ≡ pair_before (pair_of (get_or text j 0) (get_or text (j + 1) 0)) (pairs_of (drop (j + 2) text))
unfolding pairs_of
pairs_of-next text j within =
    let here : j < length text = omega arith in
    let there : suc j < length text = omega arith in
    let a = drop-cons text j 0 here in
    let b = drop-cons text (suc j) 0 there in
    let s : j + 1 ≡ suc j = omega arith in
    let t : j + 2 ≡ suc (suc j) = omega arith in
    rw (s, t, a, b) refl

grown : (pairs : List (Option ℕ)) (pair : Option ℕ) (i : ℕ) → length pairs ≡ i → length (pairs ++ (pair ∷ [])) ≡ suc i
grown pairs pair i e = length-append pairs (pair ∷ []) ∙ omega arith

pub reads_pairs-more : (text : List ℕ) (i : ℕ) (bytes : List ℕ) (given : List Bool) (pair : Option ℕ)
    → 2 * i + 1 < length text → i < length bytes → i < length given
    → pair_of (get_or text (2 * i) 0) (get_or text (2 * i + 1) 0) ≡ Some pair
    → ReadsPairs text i bytes given → ReadsPairs text (i + 1) (set bytes i (unwrap_or pair 0)) (set given i (is_some pair))
reads_pairs-more text i bytes given pair within in_bytes in_given reads h =
    let one : i + 1 ≡ suc i = omega arith in
    let two : 2 * suc i ≡ 2 * i + 2 = omega arith in
    rw one record {
      pairs = h.pairs ++ (pair ∷ []);
      size = grown h.pairs pair i h.size;
      bytes_are = take-suc-set bytes i (unwrap_or pair 0) in_bytes ∙ ap (λ (xs : List ℕ). xs ++ (unwrap_or pair 0 ∷ [])) h.bytes_are ∙ sym (map-append _ h.pairs (pair ∷ []));
      given_are = take-suc-set given i (is_some pair) in_given ∙ ap (λ (xs : List Bool). xs ++ (is_some pair ∷ [])) h.given_are ∙ sym (map-append _ h.pairs (pair ∷ []));
      rest = rw two (h.rest ∙ ap (pairs_before h.pairs) (pairs_of-next text (2 * i) within ∙ ap (λ (o : Option (Option ℕ)). pair_before o (pairs_of (drop (2 * i + 2) text))) reads) ∙ pairs_before-pair h.pairs pair _);
    }

-- two characters that are no pair
pub masked_of-bad : (n : ℕ) (text : List ℕ) (i : ℕ) (bytes : List ℕ) (given : List Bool)
    → 2 * i + 1 < length text → pair_of (get_or text (2 * i) 0) (get_or text (2 * i + 1) 0) ≡ None
    → ReadsPairs text i bytes given → masked_of n text ≡ None
unfolding masked_of
masked_of-bad n text i bytes given within bad h =
    ap (masked_from n) (h.rest ∙ ap (pairs_before h.pairs) (pairs_of-next text (2 * i) within ∙ ap (λ (o : Option (Option ℕ)). pair_before o (pairs_of (drop (2 * i + 2) text))) bad))

pub list_any-some : (pairs : List (Option ℕ)) → list_any (λ g. g) (map is_some pairs) ≡ list_any is_some pairs
list_any-some [] = refl
list_any-some (pair ∷ pairs) = ap (λ (b : Bool). is_some pair || b) (list_any-some pairs)

-- the pairs of a text that was read whole
pairs_of-whole : (n : ℕ) (text : List ℕ) (bytes : List ℕ) (given : List Bool) → length text ≡ 2 * n → (h : ReadsPairs text n bytes given) → pairs_of text ≡ Some h.pairs
unfolding pairs_of
pairs_of-whole n text bytes given sized h =
    let none : drop (2 * n) text ≡ [] = drop_all (2 * n) text (omega arith) in
    h.rest ∙ rw none (ap Some (append-nil h.pairs))

-- what masked_of makes of pairs that are enough
masked_from-enough : (n : ℕ) (pairs : List (Option ℕ)) → length pairs ≡ n → masked_from n (Some pairs) ≡ (if list_any is_some pairs then Some (masked_by pairs) else None)
masked_from-enough n pairs e =
    let same : (length pairs == n) ≡ true = grind (arith, nat_tests) in
    rw same refl

-- all pairs were read
pub masked_of-done : (n : ℕ) (text : List ℕ) (bytes : List ℕ) (given : List Bool)
    → length text ≡ 2 * n → length bytes ≡ n → length given ≡ n → ReadsPairs text n bytes given
    → masked_of n text ≡ (if list_any (λ g. g) given then Some (record { bytes = bytes; given = given }) else None)
unfolding masked_of
masked_of-done n text bytes given sized in_bytes in_given h =
    let b : bytes ≡ map (λ pair. unwrap_or pair 0) h.pairs = sym (take_all n bytes (omega arith)) ∙ h.bytes_are in
    let g : given ≡ map is_some h.pairs = sym (take_all n given (omega arith)) ∙ h.given_are in
    ap (masked_from n) (pairs_of-whole n text bytes given sized h) ∙ masked_from-enough n h.pairs h.size
    ∙ rw (b, g, list_any-some h.pairs) refl
