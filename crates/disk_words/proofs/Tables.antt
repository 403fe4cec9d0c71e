-- A command that gets its options one by one.
use Rattle.std.proofs.Common.{◌≡◌, ℕ, suc, ◌+◌, ◌<◌, List, map, length, get_or, drop, Bor, ap, arith}
use Rattle.std.proofs.Math.Seq.{drop-cons}
use Rattle.clap.specs.Words.{App, Text, with_rule}
use Rattle.command_line.specs.Table.{option_rule, with_options}

pub options-next : (a b : App) (options : List (Bor Text)) (i : ℕ) (d : Bor Text) → i < length options
    → b ≡ with_rule a (option_rule (get_or options i d).now)
    → with_options b (map (λ s. s.now) (drop (i + 1) options)) ≡ with_options a (map (λ s. s.now) (drop i options))
options-next a b options i d within e =
    let one : i + 1 ≡ suc i = omega arith in
    rw (one, drop-cons options i d within) (ap (λ c. with_options c (map (λ (s : Bor Text). s.now) (drop (suc i) options))) e)
