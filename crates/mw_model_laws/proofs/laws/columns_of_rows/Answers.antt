use Rattle.mw_model_laws.proofs.BoxLaws.{erosion-rows_columns, dilation-rows_columns}
use Rattle.mw_model_laws.proofs.laws.columns_of_rows.Goals as goal

pub returns : goal.returns
returns c = record { eroded = erosion-rows_columns; dilated = dilation-rows_columns }
