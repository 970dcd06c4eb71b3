-- Refusals of a reader of pages.
use Rattle.std.proofs.Common.{◌≡◌, Option, None, refl}
use Rattle.rg_page.specs.Bytes.Reading.{Refuses}
use Rattle.rg_page.specs.declared.bytes.fault.PageFault.{PageFault}
use Rattle.rg_page.specs.declared.bytes.fault.PageFault.TheVariants.{NotAPage, NoMemory}
use Rattle.rg_page.specs.Reading.{Unless}

-- what is to be said of a refusal is to be said of that one alone
pub unless : {why : Type 0} (fault : PageFault) → (fault ≡ NotAPage → why) → Unless why fault
unless NotAPage says = says refl
unless NoMemory says = tt

pub said : {why : Type 0} (fault : PageFault) → Unless why fault → fault ≡ NotAPage → why
said NotAPage says is = says
said NoMemory says is = cc

pub refused : {Y : Type 0} (fault : PageFault) (read : Option Y) → Refuses fault read
    → fault ≡ NotAPage → read ≡ None
refused NotAPage read says is = says
refused NoMemory read says is = cc
