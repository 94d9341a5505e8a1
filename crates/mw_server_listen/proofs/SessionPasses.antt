-- The pass of one session, and the audit of all.
use Rattle.std.proofs.Common.{◌≡◌, ℕ, List, [], Option, All, length, refl}
use Rattle.mw_model.specs.declared.receipts.Receipt.{Receipt}
use Rattle.mw_pool_session.specs.Serving.{ServedWhole}
use Rattle.mw_pool_session.proofs.Sessions.{whole-receives}
use Rattle.mw_model.specs.Machine.{Machine}
use Rattle.mw_model.specs.Receipts.{Covers}
use Rattle.mw_model.specs.Stands.{CoreView, StandsFor}
use Rattle.mw_server_listen.specs.Listening.{Audited, IsOfSession}

-- of a connection that failed nothing was read
pub unread_is_of_session : IsOfSession []
unread_is_of_session = record { bytes = []; rest = []; text = []; receives = record { asked = []; receipts = []; cut = refl; open_still = tt; added = refl; served = (refl, refl) } }

pub served_is_of_session : (pass : List Receipt) (had left before after : Option (List ℕ)) → ServedWhole pass had left before after → IsOfSession pass
served_is_of_session pass had left before after served =
    let h = whole-receives pass had left before after served in
    record { bytes = h.0; rest = h.1; text = h.2; receives = h.3 }

pub are_audited : (left : List Receipt → Type 0) (sessions : ℕ) (passes : List (List Receipt)) → length passes ≡ sessions → ∥ All left passes ∥₁
    → (core : CoreView) × ∥ ((m : Machine) × StandsFor core m) ∥₁ × Covers core.log passes → Audited left sessions
are_audited left sessions passes joined each (core, stands, covers) = record { core = core; stands = stands; passes = passes; joined = joined; each = each; covers = covers }
