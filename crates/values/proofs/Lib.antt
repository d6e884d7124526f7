-- Laws of the values of a text.
pub mod ValueLaws
pub mod DefaultLength
