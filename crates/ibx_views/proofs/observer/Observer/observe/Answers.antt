use Rattle.std.proofs.Common.{sym, ap, ◌∙◌}
use Rattle.ibx_isa.specs.declared.event.View.{View}
use Rattle.ibx_isa.specs.Views.{view_of}
use Rattle.ibx_plan.specs.Plan.{empty_plan}
use Rattle.ibx_views.specs.declared.time_view.TimeView.{TimeView}
use Rattle.ibx_views.specs.TimeViews.{change_of, ctl_changed, time_view}
use Rattle.ibx_views.specs.Observers.{ctl_in, settings_in}
use Rattle.ibx_views.proofs.Operands.{reads_no_plan}
use Rattle.ibx_views.proofs.Seen.{change_ctl}
use Rattle.ibx_views.proofs.observer.Observer.observe.Goals as goal

pub returns-clause-seen : goal.returns-clause-seen
returns-clause-seen c = λ plan.
    c.look-seen.ensures
    ∙ ap (λ (v : View). time_view (settings_in c.args.self.now) (ctl_in c.args.self.now) v) c.view.ensures
    ∙ reads_no_plan c.args.self.now.ram c.args.self.now.mul empty_plan plan (ctl_in c.args.self.now)
    (view_of c.args.event.now)

pub returns-clause-registers : goal.returns-clause-registers
returns-clause-registers c =
    c.follow.ensures.registers
    ∙ ap (ctl_changed (ctl_in c.args.self.now)) (ap (λ (v : TimeView). v.change) c.look-seen.ensures
    ∙ ap change_of c.view.ensures)
    ∙ sym (change_ctl (ctl_in c.args.self.now) c.args.event.now)
