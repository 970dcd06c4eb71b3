use Rattle.std.proofs.Common.{◌≡◌, ◌∙◌, ◌++◌, ℕ, List, ap, sym, true, false, not, eqb}
use lib.Pointwise.{pointwise, bytes_decides}
use Rattle.std.proofs.lemmas.Result.{err_from_is_err_and}
use Rattle.rg_record.specs.Spelling.{record_bytes}
use Rattle.rg_record.proofs.Again.{refused, only_read}
use Rattle.rg_record.proofs.read.read_record.Goals as goal

pub returns-in_err-entry-clause-fault : goal.returns-in_err-entry-clause-fault
returns-in_err-entry-clause-fault c =
    let p = err_from_is_err_and c.from_residual.result c.from_residual.ensures.1 in
    rw (p.1, p.2) (refused c.args.bytes.now c.in_err-entry.field-0.0 c.in_err-entry.ensures)

pub returns-then-not-is_spelled-clause-fault : goal.returns-then-not-is_spelled-clause-fault
returns-then-not-is_spelled-clause-fault c =
    only_read c.args.bytes.now c.in_ok-entry.entry c.in_ok-entry.ensures
    (λ is same. let yes_it_is : c.is_spelled.result ≡ true = c.is_spelled.ensures.1 is in cc)

pub returns-then-ne-clause-fault : goal.returns-then-ne-clause-fault
returns-then-ne-clause-fault c =
    only_read c.args.bytes.now c.in_ok-entry.entry c.in_ok-entry.ensures
    (λ is same.
    let written : c.add_to.new.out ≡ record_bytes c.in_ok-entry.entry =
    c.add_to.ensures.bytes
    ∙ ap (λ (xs : List ℕ). xs ++ record_bytes c.in_ok-entry.entry) c.new-again.ensures in
    let equal : c.as_slice.result.now ≡ c.args.bytes.now =
    c.as_slice.ensures.bytes ∙ written ∙ same in
    let test = (bytes_decides c.as_slice.result.now c.args.bytes.now).1 equal in
    let unequal : true ≡ not (pointwise eqb c.as_slice.result.now c.args.bytes.now) =
    sym c.if-ne.true ∙ c.ne.ensures in
    let wrong : true ≡ false = unequal ∙ ap not test in
    cc)
