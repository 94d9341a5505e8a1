-- What a call tells of a payload, from what the payload was read as.
use Rattle.std.proofs.Common.{◌≡◌, ℕ, List, Some, None, Result, Ok, Err, refl, ap, inl, inr}
use Rattle.std.specs.Prelude.{IfOk}
use Rattle.mw_model.specs.declared.codes.Code.{Code}
use Rattle.mw_model.specs.declared.names.Name.{Name}
use Rattle.mw_model.specs.declared.calls.Given.{Given}
use Rattle.mw_model.specs.declared.calls.Given.TheVariants as given
use Rattle.mw_model.specs.declared.calls.Call.TheVariants as call
use Rattle.mw_model.specs.declared.calls.Reply.{Reply}
use Rattle.mw_model.specs.declared.receipts.Receipt.{Receipt}
use Rattle.mw_model.specs.Pictures.{Picture}
use Rattle.mw_model.specs.Elements.{Figure}
use Rattle.mw_model.specs.Values.{ImageValue, ElementValue}
use Rattle.mw_pool_passes.specs.mw_core_laws.Payloads.{given_image, given_element}
use Rattle.mw_session_laws.specs.Payloads.{ReadsImage, ReadsElement}
use Rattle.mw_pool_passes.specs.Passes.{AddsReceipt, with_receipt}
use Rattle.mw_pool.specs.Payloads.{TellsImage, TellsElement}

told_image : (bytes : List ℕ) (image : Result Picture Code) → ReadsImage bytes image → TellsImage bytes (given_image image)
told_image bytes (Ok f) read = inr (Some (ImageValue f), (f, read.0, refl, refl))
told_image bytes (Err c) (inl memory) = inl (ap given.Bad memory)
told_image bytes (Err c) (inr refused) = inr (None, (refused, refl))

told_element : (bytes : List ℕ) (ox oy : ℕ) (element : Result Figure Code) → ReadsElement bytes ox oy element → TellsElement bytes ox oy (given_element element)
told_element bytes ox oy (Ok b) read = inr (Some (ElementValue b), (b, read, refl, refl))
told_element bytes ox oy (Err c) (inl memory) = inl (ap given.Bad memory)
told_element bytes ox oy (Err c) (inr refused) = inr (None, (refused, refl))

-- the receipt of a LOAD tells of the payload
pub adds_load : {E : Type 0} (bytes : List ℕ) (name : Name) (image : Result Picture Code) (old new : List Receipt) (place : ℕ) (r : Result Reply E) → ReadsImage bytes image
    → IfOk r (λ a. new ≡ with_receipt old place (call.Load name (given_image image)) a) → IfOk r (λ a. (g : Given) × TellsImage bytes g × AddsReceipt old new (call.Load name g) a)
adds_load bytes name image old new place (Ok a) read is = (given_image image, told_image bytes image read, (place, is))
adds_load bytes name image old new place (Err e) read is = tt

-- and that of an ELEMENT
pub adds_element : {E : Type 0} (bytes : List ℕ) (ox oy : ℕ) (name : Name) (element : Result Figure Code) (old new : List Receipt) (place : ℕ) (r : Result Reply E) → ReadsElement bytes ox oy element
    → IfOk r (λ a. new ≡ with_receipt old place (call.Element name (given_element element)) a) → IfOk r (λ a. (g : Given) × TellsElement bytes ox oy g × AddsReceipt old new (call.Element name g) a)
adds_element bytes ox oy name element old new place (Ok a) read is = (given_element element, told_element bytes ox oy element read, (place, is))
adds_element bytes ox oy name element old new place (Err e) read is = tt
