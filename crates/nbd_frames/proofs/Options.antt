-- An option that is read is spelled so, and none is spelled as another.
use Rattle.std.proofs.Common.{◌≡◌, ℕ, List, ◌++◌, length, take, drop, sym, ap, ◌∙◌, refl, arith}
use Rattle.std.proofs.{lemmas.Bool.Decides.nat_tests, lemmas.List.{length-drop, take_all}, lemmas.Nat.from_be_bytes-to_be_bytes_4}
use Rattle.nbd_frames.specs.{Numbers.{four, eight, four_at, eight_at}, Options.{IsOption, choice_code, choice_of, option_bytes, option_magic}, declared.handshake.Choice.Choice}
use Rattle.nbd_frames.{specs.declared.handshake.OptionHeader.OptionHeader, proofs.Spelling.{AreBytes, four_spelled, eight_spelled, parted}}

-- the option that bytes are
abbrev pub option_of : List ℕ → OptionHeader
option_of bytes = record { choice = choice_of (four_at bytes 8); size = four_at bytes 12 }

fields : (bytes : List ℕ) → length bytes ≡ 16 → take 8 (drop 0 bytes) ++ (take 4 (drop 8 bytes) ++ take 4 (drop 12 bytes)) ≡ bytes
fields bytes long =
    let last : take 4 (drop 12 bytes) ≡ drop 12 bytes = take_all 4 (drop 12 bytes) (omega (arith, length-drop 12 bytes)) in
    let choice = ap (λ (t : List ℕ). take 4 (drop 8 bytes) ++ t) last ∙ parted 4 8 bytes in
    ap (λ (t : List ℕ). take 8 (drop 0 bytes) ++ t) choice ∙ parted 8 0 bytes

joined : (a a' b b' c c' : List ℕ) → a ≡ a' → b ≡ b' → c ≡ c' → a ++ (b ++ c) ≡ a' ++ (b' ++ c')
joined a a' b b' c c' p q r = cc

-- an option has the number that names it
pub choice_again : (code : ℕ) → choice_code (choice_of code) ≡ code
choice_again code = grind (arith, nat_tests)

pub option_spelled : (bytes : List ℕ) → length bytes ≡ 16 → AreBytes bytes → eight_at bytes 0 ≡ option_magic → bytes ≡ option_bytes (option_of bytes)
option_spelled bytes long are magic =
    sym (joined _ _ _ _ _ _ (ap eight (sym magic) ∙ eight_spelled bytes 0 (omega arith) are)
    (ap four (choice_again (four_at bytes 8)) ∙ four_spelled bytes 8 (omega arith) are) (four_spelled bytes 12 (omega arith) are) ∙ fields bytes long)

same_option : (c c' : Choice) (s s' : ℕ) → c ≡ c' → s ≡ s' → (let one : OptionHeader = record { choice = c; size = s } in one) ≡ record { choice = c'; size = s' }
same_option c c' s s' p q = cc

pub option_again : (h : OptionHeader) → IsOption h → option_of (option_bytes h) ≡ h
option_again h is =
    same_option _ h.choice _ h.size (ap choice_of (from_be_bytes-to_be_bytes_4 (choice_code h.choice) is.code) ∙ sym is.named)
    (from_be_bytes-to_be_bytes_4 h.size is.size)

pub magic_again : (h : OptionHeader) → eight_at (option_bytes h) 0 ≡ option_magic
magic_again h = refl

-- what is read in 16 bytes, field by field, is the option that they are
pub read_so : (bytes : List ℕ) (code size : ℕ) (choice : Choice) → choice ≡ choice_of code → code ≡ four_at bytes 8 → size ≡ four_at bytes 12
    → (let read : OptionHeader = record { choice = choice; size = size } in read) ≡ option_of bytes
read_so bytes code size choice p q r = same_option choice _ size _ (p ∙ ap choice_of q) r

pub found_so : (bytes : List ℕ) (read : OptionHeader) → length bytes ≡ 16 → AreBytes bytes → eight_at bytes 0 ≡ option_magic → read ≡ option_of bytes → bytes ≡ option_bytes read
found_so bytes read long are magic is = option_spelled bytes long are magic ∙ ap option_bytes (sym is)

pub only_so : (bytes : List ℕ) (read header : OptionHeader) → read ≡ option_of bytes → IsOption header → bytes ≡ option_bytes header → read ≡ header
only_so bytes read header is lawful spelled = is ∙ ap option_of spelled ∙ option_again header lawful
