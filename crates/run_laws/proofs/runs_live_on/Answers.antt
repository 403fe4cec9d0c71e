use Rattle.run_laws.proofs.Lasting.{alive_law}
use Rattle.run_laws.proofs.runs_live_on.Goals as goal

pub returns : goal.returns
returns c = alive_law c.hot_lines_leave_banks_alive.ensures c.unworn_lines_stay.ensures
