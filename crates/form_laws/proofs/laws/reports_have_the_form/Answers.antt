use Rattle.form_laws.proofs.Forms.{forms_made}
use Rattle.form_laws.proofs.laws.reports_have_the_form.Goals as goal

pub returns : goal.returns
returns c = forms_made c.events_are_fit.ensures c.served_calls_are_of_scripts.ensures c.stored_calls_were_served.ensures
