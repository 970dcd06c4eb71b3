use Rattle.rg_image.proofs.Determined.{one_page_breaks}
use Rattle.rg_image.proofs.laws.one_log_page_is_named.Goals as goal

pub returns : goal.returns
returns c = one_page_breaks
