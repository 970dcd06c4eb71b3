use Rattle.std.proofs.Common.{ℕ, ◌+◌, ◌≤◌, [], refl, arith}
use Rattle.rg_base.specs.RowBytes.{row_size}
use Rattle.rg_home.specs.Pages.{slot_of}
use Rattle.rg_laws_pages.proofs.ByteClaimsLemmas.Pages.{purge_claim}
use Rattle.rg_laws_pages.proofs.ByteClaimsLemmas.Plans.{put_claims, change_claims, drop_claims}
use Rattle.rg_laws_pages.proofs.ByteClaimsLemmas.Undo.{undo_claims}
use Rattle.rg_laws_pages.proofs.byte_claims.laws.plans_law.Goals as goal

nothing : (a b : ℕ) → a ≤ b + 0 → a ≤ b
nothing a b l = omega arith

pub returns-clause-put : goal.returns-clause-put
returns-clause-put c holds owner row live capacity pages proper =
    put_claims holds owner row live pages proper.sound proper.tied (row_size row) capacity

pub returns-clause-change : goal.returns-clause-change
returns-clause-change c holds owner row live capacity pages home proper is = change_claims holds
    owner row live pages proper.sound proper.tied home (row_size row) capacity is

pub returns-clause-drop : goal.returns-clause-drop
returns-clause-drop c holds owner row pages home proper is = nothing _ _
    (drop_claims holds owner row [] pages proper.sound proper.tied home (slot_of pages home) refl
    is)

pub returns-clause-undo : goal.returns-clause-undo
returns-clause-undo c holds d pages mine proper can = undo_claims holds d pages mine proper can

pub returns-clause-purge : goal.returns-clause-purge
returns-clause-purge c holds owner row live pages n purges =
    purge_claim holds owner row live pages n purges
