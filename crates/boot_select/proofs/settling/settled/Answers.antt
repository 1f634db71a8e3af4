use Rattle.std.proofs.Common.{◌≡◌}
use Rattle.boot_select.specs.Candidates.{is_whole}
use Rattle.boot_select.specs.Settled.{settled_of}
use Rattle.boot_select.proofs.SettledLemmas.{settled-ok, settled-none, settled-other, settled-waiting}
use Rattle.boot_select.proofs.settling.settled.Goals as goal

pub returns : goal.returns
unfolding settled_of
returns c =
    let layout = c.args.layout.now in
    let whole = is_whole c.args.ok.now in
    let e0 = c.args.e0.now in
    let e1 = c.args.e1.now in
    let is : c.settled_as.result ≡ settled_of layout whole e0 e1 = cc in
    record {
      exact = is;
      ok = λ app. rw is (settled-ok layout whole e0 e1 app);
      waiting = λ sector state. rw is (settled-waiting layout whole e0 e1 sector state);
      no_app = rw is (settled-none layout whole e0 e1);
      fallback = λ named started. rw is (settled-other layout whole e0 e1 named started);
    }
