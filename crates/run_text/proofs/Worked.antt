-- A worked example: a write that was stored and a read that was forwarded, with one pulse.
use Rattle.std.proofs.Common.{◌≡◌, List, [], ◌∷◌, refl}
use Rattle.std.specs.{Fmt.digits, Prelude.{codes, replicate}}
use Rattle.result_rows.specs.declared.Outcome.{Outcome}
use Rattle.result_rows.specs.declared.Outcome.TheVariants as out
use Rattle.run_text.specs.{Counting.counts_of, SummaryText.summary_text}

abbrev stored_and_forwarded : List (Outcome 64)
stored_and_forwarded = out.Stored 15 3 ∷ out.Forwarded 0 (replicate 64 0xff) ∷ []

summary_of_two_rows : summary_text 2 (counts_of stored_and_forwarded) 0 1
    ≡ codes "rows 2\nstored 1\nmerged 0\nqueued 0\nfull 0\nworn 0\nread 0\nforwarded 1\nbusy 0\nlost 0\ncut 0\nretired 0\npulses 1\n"
unfolding digits
summary_of_two_rows = refl
