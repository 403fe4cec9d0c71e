-- What is answered to an option, by its kind.
use Rattle.std.proofs.Common.{◌≡◌, ◌≢◌, ◌⊎◌, ◌≤◌, ℕ, Bool, true, false, List, [], ◌++◌, length, sym, ap, ◌∙◌, inl, inr}
use Rattle.std.{specs.Prelude.{nat_le, ◌&&◌}, proofs.lemmas.Bool.{cond-false, cond-true, eq-eqb, ne_eqb, le-leb, le-ltb}}
use Rattle.nbd_frames.specs.{Numbers.four, Options.{asks_info, info_replies, is_told, most_data, option_reply, replies_to}, declared.handshake.Choice.Choice}
use Rattle.nbd_frames.specs.declared.handshake.Choice.TheVariants.{Exports, Info, Go, Other}
use Rattle.nbd_frames.specs.declared.handshake.Reply.TheVariants as says

module _ (size : ℕ) (zeros : Bool) (choice : Choice) (bytes : List ℕ) where
  abbrev replies : Choice → List ℕ
  replies c = replies_to size zeros c bytes

  pub no_names : choice ≡ Exports → length bytes ≡ 0 → replies_to size zeros choice bytes ≡ option_reply Exports says.Server (four 0) ++ option_reply Exports says.Ack []
  no_names is empty = ap replies is ∙ cond-true _ _ _ (eq-eqb (length bytes) 0 empty)

  pub some_names : choice ≡ Exports → length bytes ≢ 0 → replies_to size zeros choice bytes ≡ option_reply Exports says.Invalid []
  some_names is some = ap replies is ∙ cond-false _ _ _ (ne_eqb (length bytes) 0 some)

  pub info_same : (choice ≡ Info) ⊎ (choice ≡ Go) → replies_to size zeros choice bytes ≡ info_replies size choice bytes
  info_same (inl is) = ap replies is ∙ ap (λ (c : Choice). info_replies size c bytes) (sym is)
  info_same (inr is) = ap replies is ∙ ap (λ (c : Choice). info_replies size c bytes) (sym is)

  pub unknown : (code : ℕ) → choice ≡ Other code → replies_to size zeros choice bytes ≡ option_reply (Other code) says.Unsupported []
  unknown code is = ap replies is

  only_test : (a b : Bool) → a ≡ true → (a && b) ≡ false → b ≡ false
  only_test true b is none = none
  only_test false b is none = absurd cc

  pub untold : length bytes ≤ most_data → is_told bytes ≡ false → info_replies size choice bytes ≡ option_reply choice says.Invalid []
  untold few none =
      cond-false _ _ _ (le-ltb most_data (length bytes) few)
      ∙ cond-false _ _ _ (only_test (nat_le (length bytes) most_data) (asks_info bytes) (le-leb (length bytes) most_data few) none)
