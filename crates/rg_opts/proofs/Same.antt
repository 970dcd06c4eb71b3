-- Two settings of the same words are one.
use Rattle.std.proofs.Common.{ℕ, ◌≡◌, ◌≢◌, ◌+◌, ◌*◌, ◌<◌, ◌≤◌, ◌^◌, List, length, get_or, arith}
use Rattle.std.proofs.Common.{refl, ap, sym}
use Rattle.std.specs.Prelude.{codes}
use Rattle.std.specs.Fmt.{decimal}
use Rattle.std.specs.Str.Parse.{AllDigits, digits_value}
use Rattle.std.proofs.lemmas.Str.Parse.{IsNumeralModel, numerals_by_value, tells_digits, digit_at}
use Rattle.std.proofs.lemmas.Fmt.{decimal_injective, decimal_nonempty, digits_decimal}
use Rattle.rg_base.specs.declared.control.Maxro.{Maxro}
use Rattle.rg_base.specs.declared.control.Maxro.TheVariants.{Within, Defer}
use Rattle.rg_base.specs.declared.control.Longlog.{Longlog}
use Rattle.rg_base.specs.declared.control.Longlog.TheVariants as longlogs
use Rattle.rg_base.specs.declared.control.Deadline.{Deadline}
use Rattle.rg_base.specs.declared.control.Deadline.TheVariants.{Never, At}
use Rattle.rg_base.specs.declared.options.DrainFor.{DrainFor}
use Rattle.rg_base.specs.declared.options.DrainFor.TheVariants.{Writers, All}
use Rattle.rg_opts.specs.declared.keyword.Keyword.{Keyword}
use Rattle.rg_opts.specs.declared.keyword.Keyword.TheVariants as names
use Rattle.rg_opts.specs.declared.setting.Setting.{Setting}
use Rattle.rg_opts.specs.declared.setting.Setting.TheVariants as sets
use Rattle.rg_opts.specs.Spelling.{keyword_word, keyword_of, value_word, IsSetting, maxro_word}
use Rattle.rg_opts.specs.Spelling.{IsMaxro, longlog_word, deadline_word, IsDeadline, drain_word}

-- a number that tells the names apart: their lengths and third bytes
mark : List ℕ → ℕ
mark word = 256 * length word + get_or word 2 0

pub same_keyword : (a b : Keyword) → keyword_word a ≡ keyword_word b → a ≡ b
unfolding mark
same_keyword names.Maxro names.Maxro e = refl
same_keyword names.Longlog names.Longlog e = refl
same_keyword names.Delay names.Delay e = refl
same_keyword names.Deadline names.Deadline e = refl
same_keyword names.Drain names.Drain e = refl
same_keyword names.DrainWait names.DrainWait e = refl
same_keyword names.Retry names.Retry e = refl
same_keyword names.RetryDelay names.RetryDelay e = refl
same_keyword names.Pctfree names.Pctfree e = refl
same_keyword names.Freepage names.Freepage e = refl
same_keyword a b e = absurd (omega (arith, ap mark e))

-- the first byte
front : List ℕ → ℕ
front word = get_or word 0 0

own : IsNumeralModel (AllDigits 10) (digits_value 10)
own = numerals_by_value (AllDigits 10) tells_digits

-- a number begins with a digit
front-decimal : (n : ℕ) → n < 2 ^ 64 → front (decimal n) ≤ 57
unfolding front
front-decimal n h =
    let digit = digit_at (decimal n) 0 (digits_decimal own n h) (decimal_nonempty n h) in
    omega arith

same_number : (m n : ℕ) → m < 2 ^ 32 → n < 2 ^ 32 → decimal m ≡ decimal n → m ≡ n
same_number m n low high e = decimal_injective m n (omega arith) (omega arith) e

no_number : (n : ℕ) (word : List ℕ) → n < 2 ^ 32 → 57 < front word → decimal n ≢ word
no_number n word low high e = omega (arith, front-decimal n (omega arith), ap front e)

same_maxro : (a b : Maxro) → IsMaxro a → IsMaxro b → maxro_word a ≡ maxro_word b → a ≡ b
unfolding front
same_maxro (Within m) (Within n) ia ib e = ap Within (same_number m n ia ib e)
same_maxro (Within m) Defer ia ib e = absurd (no_number m (codes "DEFER") ia (omega arith) e)
same_maxro Defer (Within n) ia ib e = absurd (no_number n (codes "DEFER") ib (omega arith) (sym e))
same_maxro Defer Defer ia ib e = refl

same_deadline : (a b : Deadline) → IsDeadline a → IsDeadline b → deadline_word a ≡ deadline_word b
    → a ≡ b
unfolding front
same_deadline (At m) (At n) ia ib e = ap At (same_number m n ia ib e)
same_deadline (At m) Never ia ib e = absurd (no_number m (codes "NONE") ia (omega arith) e)
same_deadline Never (At n) ia ib e = absurd (no_number n (codes "NONE") ib (omega arith) (sym e))
same_deadline Never Never ia ib e = refl

same_longlog : (a b : Longlog) → longlog_word a ≡ longlog_word b → a ≡ b
unfolding front
same_longlog longlogs.Continue longlogs.Continue e = refl
same_longlog longlogs.Term longlogs.Term e = refl
same_longlog longlogs.Drain longlogs.Drain e = refl
same_longlog a b e = absurd (omega (arith, ap front e))

same_drain : (a b : DrainFor) → drain_word a ≡ drain_word b → a ≡ b
unfolding front
same_drain Writers Writers e = refl
same_drain All All e = refl
same_drain a b e = absurd (omega (arith, ap front e))

-- one option, and one word for its value
pub same_setting : (a b : Setting) → IsSetting a → IsSetting b → keyword_of a ≡ keyword_of b
    → value_word a ≡ value_word b → a ≡ b
same_setting (sets.Maxro x) (sets.Maxro y) ia ib k e = ap sets.Maxro (same_maxro x y ia ib e)
same_setting (sets.Longlog x) (sets.Longlog y) ia ib k e = ap sets.Longlog (same_longlog x y e)
same_setting (sets.Delay m) (sets.Delay n) ia ib k e = ap sets.Delay (same_number m n ia ib e)
same_setting (sets.Deadline x) (sets.Deadline y) ia ib k e =
    ap sets.Deadline (same_deadline x y ia ib e)
same_setting (sets.Drain x) (sets.Drain y) ia ib k e = ap sets.Drain (same_drain x y e)
same_setting (sets.DrainWait m) (sets.DrainWait n) ia ib k e =
    ap sets.DrainWait (same_number m n ia ib e)
same_setting (sets.Retry m) (sets.Retry n) ia ib k e =
    ap sets.Retry (same_number m n (omega arith) (omega arith) e)
same_setting (sets.RetryDelay m) (sets.RetryDelay n) ia ib k e =
    ap sets.RetryDelay (same_number m n ia ib e)
same_setting (sets.Pctfree m) (sets.Pctfree n) ia ib k e =
    ap sets.Pctfree (same_number m n (omega arith) (omega arith) e)
same_setting (sets.Freepage m) (sets.Freepage n) ia ib k e =
    ap sets.Freepage (same_number m n (omega arith) (omega arith) e)
same_setting a b ia ib k e = cc
