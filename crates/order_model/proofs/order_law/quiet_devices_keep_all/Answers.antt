use Rattle.order_model.proofs.OrderToTheMedium.{IsRun}
use Rattle.order_model.proofs.QuietDevices.{all_kept}
use Rattle.order_model.proofs.order_law.quiet_devices_keep_all.Goals as goal

pub returns : goal.returns
returns c = λ requests s d ids carries surface fits all none whole quiet i put.
    let run : IsRun requests s d = record { ids = ids; fits = fits; carries = carries; surface = surface } in
    all_kept requests s d run all none whole quiet i put
