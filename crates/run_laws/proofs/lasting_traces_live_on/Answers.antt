use Rattle.run_laws.proofs.Lasting.{asked_alive_law}
use Rattle.run_laws.proofs.lasting_traces_live_on.Goals as goal

pub returns : goal.returns
returns c = asked_alive_law c.asked_writes_bound_stores.ensures c.hot_lines_leave_banks_alive.ensures c.unworn_lines_stay.ensures
