mod Beginning
mod Lines
