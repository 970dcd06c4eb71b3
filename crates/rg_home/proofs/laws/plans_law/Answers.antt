use Rattle.std.proofs.Common.{ℕ, ◌≤◌, [], refl, arith}
use Rattle.rg_home.specs.Pages.{page_at, slot_of}
use Rattle.rg_home.proofs.Fit.{purge_fits}
use Rattle.rg_base.specs.RowBytes.{row_size}
use Rattle.rg_home.proofs.Lies.{put_lies, change_lies, drop_lies}
use Rattle.rg_home.proofs.Whole.{purges_page, purge_rows, purge_proper, put_writes, change_writes}
use Rattle.rg_home.proofs.Whole.{drop_writes}
use Rattle.rg_home.proofs.laws.plans_law.Goals as goal

through : (a b c : ℕ) → a ≤ b → b ≤ c → a ≤ c
through a b c h k = omega arith

pub returns-clause-purge : goal.returns-clause-purge
returns-clause-purge c owner row live limit n pages low there small proper = (
  purge_fits owner row limit live n 0 (page_at pages n) pages low (through _ _ _ there small)
      proper.sound,
  purges_page owner row live n pages low there proper,
  purge_rows owner row live n pages low there proper,
  purge_proper owner row live n pages low there proper,
)

pub returns-clause-put : goal.returns-clause-put
returns-clause-put c owner row live capacity pages small within proper =
    put_writes owner row live capacity pages small within proper

pub returns-clause-change : goal.returns-clause-change
returns-clause-change c owner row live capacity pages home small within proper is =
    change_writes owner row live capacity pages small within proper home is

pub returns-clause-drop : goal.returns-clause-drop
returns-clause-drop c owner capacity pages home within proper is =
    drop_writes owner capacity pages home within proper (slot_of pages home) refl is

pub returns-clause-lies : goal.returns-clause-lies
returns-clause-lies c = record {
  put = λ owner row live capacity pages proper. put_lies owner row live pages (row_size row)
      capacity proper.tied;
  change = λ owner row live capacity pages home proper is. change_lies owner row live pages
      proper.tied home (row_size row) capacity is;
  drop = λ owner row pages home proper is. drop_lies owner row [] pages proper.tied home
      (slot_of pages home) refl is;
}
