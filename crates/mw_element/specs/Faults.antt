-- What the faults of elements are called.
use Rattle.mw_model.specs.declared.codes.Code.{Code}
use Rattle.mw_model.specs.declared.codes.Code.TheVariants as code
use Rattle.mw_netpbm_plain.specs.Faults.{bitmap_code_of}
use Rattle.mw_element.specs.declared.fault.ElementFault.{ElementFault}
use Rattle.mw_element.specs.declared.fault.ElementFault.TheVariants as fault

-- the refusal that a fault of an element stands for
abbrev pub element_code_of : ElementFault → Code
element_code_of (fault.Bitmap f) = bitmap_code_of f
element_code_of fault.Origin = code.Origin
element_code_of fault.Empty = code.Empty
element_code_of fault.NoMemory = code.Memory
