use Rattle.rg_opts.proofs.One.{refused_file, one_refusal}
use Rattle.rg_opts.proofs.laws.one_refusal.Goals as goal

pub returns-clause-no_answers : goal.returns-clause-no_answers
returns-clause-no_answers c = refused_file

pub returns-clause-one_line : goal.returns-clause-one_line
returns-clause-one_line c = one_refusal
