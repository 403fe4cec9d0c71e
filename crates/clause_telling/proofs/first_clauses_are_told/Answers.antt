use Rattle.clause_telling.proofs.{ReadClauses.{read_clause_law, cut_clause_law}, WriteClauses.write_clause_law}
use Rattle.clause_telling.proofs.first_clauses_are_told.Goals as goal

pub returns-clause-read : goal.returns-clause-read
returns-clause-read c = read_clause_law

pub returns-clause-write : goal.returns-clause-write
returns-clause-write c = write_clause_law

pub returns-clause-cut : goal.returns-clause-cut
returns-clause-cut c = cut_clause_law
