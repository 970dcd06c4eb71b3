use Rattle.rg_page.proofs.BytesLemmas.ReadBack.{one_spelling, page_again, zeros_are_blank}
use Rattle.rg_page.proofs.BytesLemmas.Whole.{length-page}
use Rattle.rg_page.proofs.bytes.laws.page_bytes_law.Goals as goal

pub returns-clause-whole : goal.returns-clause-whole
returns-clause-whole c x fits = length-page x fits

pub returns-clause-back : goal.returns-clause-back
returns-clause-back c x fits = page_again x fits

pub returns-clause-one : goal.returns-clause-one
returns-clause-one c x y fits_x fits_y copy number same =
    one_spelling x y fits_x fits_y copy number same

pub returns-clause-zeros : goal.returns-clause-zeros
returns-clause-zeros c x zeros = zeros_are_blank x zeros
