-- What a call tells of its payload.
use Rattle.std.specs.Prelude.{Option, Some, None, Result, Ok, Err}
use Rattle.mw_model.specs.declared.codes.Code.{Code}
use Rattle.mw_model.specs.declared.calls.Given.{Given}
use Rattle.mw_model.specs.declared.calls.Given.TheVariants as given
use Rattle.mw_model.specs.Pictures.{Picture}
use Rattle.mw_model.specs.Elements.{Figure}
use Rattle.mw_model.specs.Values.{Value, ImageValue, ElementValue, shape_of_picture, shape_of_figure}

-- the shape of the image, or why there is none
abbrev pub given_image : Result Picture Code → Given
given_image (Ok f) = given.Good (shape_of_picture f)
given_image (Err c) = given.Bad c

-- the image as a value, if there is one
abbrev pub image_payload : Result Picture Code → Option Value
image_payload (Ok f) = Some (ImageValue f)
image_payload (Err c) = None

-- the shape of the element, or why there is none
abbrev pub given_element : Result Figure Code → Given
given_element (Ok b) = given.Good (shape_of_figure b)
given_element (Err c) = given.Bad c

-- the element as a value, if there is one
abbrev pub element_payload : Result Figure Code → Option Value
element_payload (Ok b) = Some (ElementValue b)
element_payload (Err c) = None
