-- A request that is read is spelled so, and none is spelled as another.
use Rattle.std.proofs.Common.{◌≡◌, ℕ, zero, suc, List, ◌++◌, length, take, drop, sym, ap, ◌∙◌, refl, arith}
use Rattle.std.proofs.{lemmas.List.{take_all, length-drop}, lemmas.Nat.{from_be_bytes-to_be_bytes_2, from_be_bytes-to_be_bytes_4, from_be_bytes-to_be_bytes_8}}
use Rattle.nbd_frames.specs.{Numbers.{two, four, two_at, four_at, eight_at}, Requests.{IsHeader, code_of, command_of, request_bytes, request_magic}}
use Rattle.nbd_frames.specs.{declared.request.Command.Command, declared.request.RequestHeader.RequestHeader}
use Rattle.nbd_frames.proofs.Spelling.{AreBytes, two_spelled, four_spelled, eight_spelled, parted}

-- a command has the number that names it
pub code_again : (code : ℕ) → code_of (command_of code) ≡ code
code_again zero = refl
code_again (suc zero) = refl
code_again (suc (suc zero)) = refl
code_again (suc (suc (suc zero))) = refl
code_again (suc (suc (suc (suc code)))) = refl

-- the request that bytes are
abbrev pub request_of : List ℕ → RequestHeader
request_of bytes = record {
  flags = two_at bytes 4;
  command = command_of (two_at bytes 6);
  cookie = eight_at bytes 8;
  at = eight_at bytes 16;
  size = four_at bytes 24;
}

-- 28 bytes, by their fields
fields : (bytes : List ℕ) → length bytes ≡ 28
    → take 4 (drop 0 bytes) ++ (take 2 (drop 4 bytes) ++ (take 2 (drop 6 bytes)
    ++ (take 8 (drop 8 bytes) ++ (take 8 (drop 16 bytes) ++ take 4 (drop 24 bytes))))) ≡ bytes
fields bytes long =
    let last : take 4 (drop 24 bytes) ≡ drop 24 bytes = take_all 4 (drop 24 bytes) (omega (arith, length-drop 24 bytes)) in
    let at = ap (λ (t : List ℕ). take 8 (drop 16 bytes) ++ t) last ∙ parted 8 16 bytes in
    let cookie = ap (λ (t : List ℕ). take 8 (drop 8 bytes) ++ t) at ∙ parted 8 8 bytes in
    let command = ap (λ (t : List ℕ). take 2 (drop 6 bytes) ++ t) cookie ∙ parted 2 6 bytes in
    let flags = ap (λ (t : List ℕ). take 2 (drop 4 bytes) ++ t) command ∙ parted 2 4 bytes in
    ap (λ (t : List ℕ). take 4 (drop 0 bytes) ++ t) flags ∙ parted 4 0 bytes

joined : (a a' b b' c c' d d' e e' f f' : List ℕ) → a ≡ a' → b ≡ b' → c ≡ c' → d ≡ d' → e ≡ e' → f ≡ f'
    → a ++ (b ++ (c ++ (d ++ (e ++ f)))) ≡ a' ++ (b' ++ (c' ++ (d' ++ (e' ++ f'))))
joined a a' b b' c c' d d' e e' f f' p q r s t u = cc

pub request_spelled : (bytes : List ℕ) → length bytes ≡ 28 → AreBytes bytes → four_at bytes 0 ≡ request_magic → bytes ≡ request_bytes (request_of bytes)
request_spelled bytes long are magic =
    sym (joined _ _ _ _ _ _ _ _ _ _ _ _ (ap four (sym magic) ∙ four_spelled bytes 0 (omega arith) are) (two_spelled bytes 4 (omega arith) are)
    (ap two (code_again (two_at bytes 6)) ∙ two_spelled bytes 6 (omega arith) are) (eight_spelled bytes 8 (omega arith) are)
    (eight_spelled bytes 16 (omega arith) are) (four_spelled bytes 24 (omega arith) are) ∙ fields bytes long)

same_header : (f f' : ℕ) (c c' : Command) (k k' a a' s s' : ℕ) → f ≡ f' → c ≡ c' → k ≡ k' → a ≡ a' → s ≡ s'
    → (let one : RequestHeader = record { flags = f; command = c; cookie = k; at = a; size = s } in one)
    ≡ record { flags = f'; command = c'; cookie = k'; at = a'; size = s' }
same_header f f' c c' k k' a a' s s' p q r t u = cc

pub request_again : (h : RequestHeader) → IsHeader h → request_of (request_bytes h) ≡ h
request_again h is =
    same_header _ h.flags _ h.command _ h.cookie _ h.at _ h.size (from_be_bytes-to_be_bytes_2 h.flags is.flags)
    (ap command_of (from_be_bytes-to_be_bytes_2 (code_of h.command) is.code) ∙ sym is.named) (from_be_bytes-to_be_bytes_8 h.cookie is.cookie)
    (from_be_bytes-to_be_bytes_8 h.at is.at) (from_be_bytes-to_be_bytes_4 h.size is.size)

-- its number in front
pub magic_again : (h : RequestHeader) → four_at (request_bytes h) 0 ≡ request_magic
magic_again h = refl

-- what is read in 28 bytes, field by field, is the request that they are
pub read_so : (bytes : List ℕ) (flags code cookie at size : ℕ) (command : Command) → flags ≡ two_at bytes 4 → command ≡ command_of code → code ≡ two_at bytes 6
    → cookie ≡ eight_at bytes 8 → at ≡ eight_at bytes 16 → size ≡ four_at bytes 24
    → (let read : RequestHeader = record { flags = flags; command = command; cookie = cookie; at = at; size = size } in read) ≡ request_of bytes
read_so bytes flags code cookie at size command p q r s t u = same_header flags _ command _ cookie _ at _ size _ p (q ∙ ap command_of r) s t u

pub found_so : (bytes : List ℕ) (read : RequestHeader) → length bytes ≡ 28 → AreBytes bytes → four_at bytes 0 ≡ request_magic → read ≡ request_of bytes
    → bytes ≡ request_bytes read
found_so bytes read long are magic is = request_spelled bytes long are magic ∙ ap request_bytes (sym is)

pub only_so : (bytes : List ℕ) (read header : RequestHeader) → read ≡ request_of bytes → IsHeader header → bytes ≡ request_bytes header → read ≡ header
only_so bytes read header is lawful spelled = is ∙ ap request_of spelled ∙ request_again header lawful
