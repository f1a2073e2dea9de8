-- `Windows::start_lanes` meets its contract: no bytes have the residue 0.
use Rattle.rolling.proofs.Residues.{read_none}
use Rattle.rolling.proofs.text_windows.Windows.start_lanes.Goals as goal

pub loop-j-init : goal.loop-j-init
loop-j-init c =
    let none = read_none c.args.self.modulus c.args.self.ready.reduce.0 c.args.self.text.now in
    (none _, none _, none _)
