-- `playing::play` meets its contract: what is printed ends before the buffer does, so it stands whole in it.
use Rattle.std.proofs.Common.{◌≡◌, ◌≤◌, arith}
use Rattle.rules.specs.Play as rule
use Rattle.script.proofs.Bounds.{read_bounded}
use Rattle.text.specs.Page.{page, page_of, puts}
use Rattle.playing.proofs.Whole.{play_bad, play_good, whole}
use Rattle.playing.proofs.play.Goals as goal
use Rattle.playing.proofs.play.Goals.{in-Ok, in-Err}

pub play_script-requires : goal.play_script-requires
play_script-requires c = read_bounded _ _ c.in-Ok.ensures

pub returns : goal.returns
returns c =
    let e : page_of c.match-read.page ≡ puts (page c.args.out.now 0) (rule.play c.args.src.now)
    = elim c.match-read.branch [
      | in-Ok w ↦ rw (w.page-is, play_good _ _ w.in-Ok.ensures) w.play_script.ensures.is_printed.is_printed
      | in-Err w ↦ rw (w.page-is, play_bad _ _ w.in-Err.ensures, ← w.from.ensures) w.put_line.ensures.is_printed.is_printed
    ] in
    let h : c.match-read.page.at ≤ 48986
    = elim c.match-read.branch [
      | in-Ok w ↦ rw w.page-is w.play_script.ensures.at_most
      | in-Err w ↦ rw w.page-is (omega (arith, w.put_line.ensures.at_most))
    ] in
    let w = whole _ _ _ _ e h c.told-out in
    record { is_printed = w.0; rest_is_kept = w.1.0; is_within = w.1.1; at_most = h }
